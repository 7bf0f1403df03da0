-- To be believed by whoever relies on it. The text of an entry.
use Rattle.std.specs.Prelude.{ℕ, ℤ, Bool, true, false, cond, List, [], ◌∷◌, ◌++◌, codes}
use Rattle.std.specs.Int.{int_max}
use Rattle.std.specs.Fmt.{signed_decimal}
use Rattle.tab_history.specs.Answers.{Told}
use Rattle.tab_history.specs.declared.event.Event.{Event}
use Rattle.tab_history.specs.declared.event.Act.{Act}
use Rattle.tab_history.specs.declared.event.Act.TheVariants.{Open, Rights, Status, Splits, Save, Load, Begin, Install}
use Rattle.tab_history.specs.declared.reply.Reply.TheVariants.{Done, Refused, Nothing}
use Rattle.tab_text.specs.Words.{word}
use Rattle.tab_text.specs.Lines.{line_text}
use Rattle.tab_replies.specs.Texts.{refusal_text}
use Rattle.tab_audit.specs.Words.{act_words}

-- Whether a script can do it again: it is no mere question, and no part of a compaction, whose jobs a script numbers anew.
abbrev pub is_change : Act → Bool
is_change (Open s) = false
is_change (Rights t) = false
is_change (Status t) = false
is_change (Splits t) = false
is_change Save = false
is_change Load = false
is_change (Begin t row kind) = false
is_change (Install t given) = false
is_change act = true

-- whether it is replayed: it was done, and can be done again
abbrev pub is_replayed : Act → Told → Bool
is_replayed act Done = is_change act
is_replayed act told = false

-- what makes a comment of a line that isn't replayed
abbrev pub mark : Bool → List ℕ
mark replayed = cond replayed [] (codes "# ")

-- what was told, in a line
abbrev pub told_text : Told → List ℕ
told_text (Refused r) = refusal_text r
told_text Nothing = codes "nothing\n"
told_text told = codes "ok\n"

-- The lines of an entry: the clock that the event had, who asked, what was asked, and what was told.
abbrev pub entry_text : ℤ → Event → Told → List ℕ
entry_text clock e told =
    line_text (codes "at" ∷ signed_decimal (int_max clock e.moment) ∷ [])
    ++ (line_text (codes "as" ∷ word e.user ∷ []) ++ (mark (is_replayed e.act told) ++ (line_text (act_words e.act) ++ (codes "# " ++ told_text told))))
