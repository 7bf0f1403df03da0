-- To be believed by whoever relies on it. Which entries are writes.
use Rattle.std.specs.Prelude.{Bool, true, false, ◌&&◌}
use Rattle.tab_history.specs.Answers.{Told}
use Rattle.tab_history.specs.declared.reply.Reply.TheVariants.{Done}
use Rattle.tab_book.specs.Records.{is_write}
use Rattle.tab_book.specs.Entries.{Posted}

-- whether it is told that all went well, and no more
abbrev pub is_done : Told → Bool
is_done Done = true
is_done _ = false

-- whether the entry is a Write that was done
abbrev pub is_done_write : Posted → Bool
is_done_write p = is_write p.event.act && is_done p.reply
