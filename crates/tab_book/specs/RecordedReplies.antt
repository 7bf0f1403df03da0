-- For proofs. Which reply is kept.
use Rattle.tab_history.specs.Answers.{Told, told_opened}
use Rattle.tab_history.specs.declared.reply.Reply.TheVariants as reply
use Rattle.tab_core.specs.EventReplies.{told_in}
use Rattle.tab_book.specs.declared.recorded_reply.RecordedReply.{RecordedReply}
use Rattle.tab_book.specs.declared.recorded_reply.RecordedReply.TheVariants.{Done, Opened, Other}

-- the reply
abbrev pub reply_in : RecordedReply → Told
reply_in Done = reply.Done
reply_in Opened = told_opened
reply_in (Other told) = told_in told.value
