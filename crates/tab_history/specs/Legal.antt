-- To be believed. Which histories are legal: each reply is the answer to its step, unless memory lacked for it.
use Rattle.std.specs.Prelude.{◌≡◌, ◌⊎◌, List, [], ◌∷◌, Bool, true, false}
use Rattle.tab_history.specs.Answers.{Told, answer, IsReply}
use Rattle.tab_history.specs.Histories.{Entry, World, clock_of, clock_at, journal, user_of, moves_of, jobs_of}
use Rattle.tab_key.specs.declared.limited_part.LimitedPart.TheVariants.{Numbers}
use Rattle.tab_history.specs.declared.event.Act.{Act}
use Rattle.tab_history.specs.Kinds.{kind_of, is_taking}
use Rattle.tab_history.specs.declared.event.Step.{Step}
use Rattle.tab_history.specs.declared.event.Step.TheVariants.{Event, Close}
use Rattle.tab_history.specs.declared.reply.Refusal.TheVariants.{NoMemory, TooLarge}
use Rattle.tab_history.specs.declared.reply.Reply.TheVariants.{Refused}

-- The answer to the step after the entries es, with Done where it is left open. The sessions and the jobs are those of the entries own.
abbrev pub answer_at : World → List Entry → List Entry → Step → Told
answer_at w es own step = answer w.base (journal w es) (moves_of w (user_of step) own) (jobs_of own) (clock_at (clock_of w es) step) step

-- The reply is an answer to the step there.
abbrev pub IsAnswer : World → List Entry → List Entry → Step → Told → Type 0
IsAnswer w es own step reply = IsReply step (answer_at w es own step) reply

-- ---- who may lack memory
-- Whether the act takes memory: those don't that only take away, put what was handed in in place of what is there, count, or only ask
-- whether an image may be saved or loaded.
abbrev pub takes_memory : Act → Bool
takes_memory act = is_taking (kind_of act)

-- whether memory may lack for the step
abbrev pub may_lack : Step → Bool
may_lack (Event e) = takes_memory e.act
may_lack (Close user slot) = false
may_lack step = true

-- memory lacked for a step that takes some
abbrev pub LacksMemory : Step → Told → Type 0
LacksMemory step reply = (may_lack step ≡ true) × (reply ≡ Refused NoMemory)

-- ---- histories
-- each reply of a run is an answer, unless memory lacked
abbrev pub Legal : World → List Entry → Type 0
Legal w [] = Unit {0}
Legal w (e ∷ es) = Legal w es × (IsAnswer w es es e.step e.reply ⊎ LacksMemory e.step e.reply)

-- the same of events that stand alone, in no one's list of sessions and beside no jobs
abbrev pub LegalAlone : World → List Entry → Type 0
LegalAlone w [] = Unit {0}
LegalAlone w (e ∷ es) = LegalAlone w es × (IsAnswer w es [] e.step e.reply ⊎ LacksMemory e.step e.reply)

-- memory never lacked
abbrev pub HasMemory : List Entry → Type 0
HasMemory [] = Unit {0}
HasMemory (e ∷ es) = HasMemory es × ¬ (e.reply ≡ Refused NoMemory)

-- where it lacked, it may lack
abbrev pub LacksWhereItMay : List Entry → Type 0
LacksWhereItMay [] = Unit {0}
LacksWhereItMay (e ∷ es) = LacksWhereItMay es × (e.reply ≡ Refused NoMemory → may_lack e.step ≡ true)

-- memory lacked, or numbers are used up
abbrev pub IsExhausted : Told → Type 0
IsExhausted reply = (reply ≡ Refused NoMemory) ⊎ (reply ≡ Refused (TooLarge Numbers))

-- nothing ran out, neither memory nor numbers
abbrev pub IsAmple : List Entry → Type 0
IsAmple [] = Unit {0}
IsAmple (e ∷ es) = IsAmple es × ¬ (IsExhausted e.reply)
