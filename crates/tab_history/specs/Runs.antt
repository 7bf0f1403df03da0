-- To be believed by whoever relies on it. Each list of steps has a legal history, and but for open answers and want of memory just one.
use Rattle.std.specs.Prelude.{◌≡◌, List, [], ◌∷◌, Bool, false, cond, Option, Some, None, map}
use Rattle.tab_history.specs.Answers.{Told, told_begun, leaves_open}
use Rattle.tab_history.specs.Histories.{Entry, World, world_after, steps_of}
use Rattle.tab_history.specs.Legal.{answer_at, Legal, LegalAlone, HasMemory, LacksWhereItMay}
use Rattle.tab_key.specs.declared.limited_part.LimitedPart.TheVariants.{Sessions}
use Rattle.tab_history.specs.declared.event.Act.{Act}
use Rattle.tab_history.specs.declared.event.Act.TheVariants.{Status, Splits, Begin}
use Rattle.tab_history.specs.declared.event.Step.{Step}
use Rattle.tab_history.specs.declared.event.Step.TheVariants.{Event}
use Rattle.tab_history.specs.declared.reply.Refusal.TheVariants.{NoMemory, TooLarge, NoSession, NoJob}
use Rattle.tab_history.specs.declared.reply.Reply.TheVariants.{Refused, Counted, Rows}

-- ---- The law: each list of steps has a legal history.
-- one of what may be told of an event that isn't refused
abbrev pub one_of : Act → Told → Told
one_of (Status t) plain = Counted (record { tablets = 0; sources = 0; records = 0 })
one_of (Splits t) plain = Rows []
one_of (Begin t row kind) plain = told_begun
one_of act plain = plain

-- one of the replies to a step with this answer
abbrev pub one_reply : Step → Told → Told
one_reply (Event e) (Refused r) = Refused r
one_reply (Event e) plain = one_of e.act plain
one_reply step plain = plain

-- one of the replies to a step after these entries, in one run
abbrev pub answer_to : World → List Entry → Step → Told
answer_to w es step = one_reply step (answer_at w es es step)

-- the history of these steps, the first of them first, after the entries es
abbrev pub played : World → List Entry → List Step → List Entry
played w es [] = es
played w es (step ∷ steps) = played w (record { step = step; reply = answer_to w es step } ∷ es) steps

-- from each world, each list of steps has a legal history
abbrev pub EveryRunIsAnswered : Type 0
EveryRunIsAnswered = (w : World) (steps : List Step) → (es : List Entry) × Legal w es × (steps_of es ≡ steps)

-- ---- The law: with the same replies where they are left open it has just one in which memory never lacked.
-- whether what is told of the step is left open
abbrev pub is_left_open : Step → Bool
is_left_open (Event e) = leaves_open e.act
is_left_open step = false

-- the step of an entry, and its reply where that is left open
abbrev pub asked_of : Entry → Step × Option Told
asked_of e = (e.step, cond (is_left_open e.step) (Some e.reply) None)

-- two legal histories of the same steps, with the same replies where they are left open, and in which memory never lacked, are one
abbrev pub OneHistory : Type 0
OneHistory = (w : World) (h k : List Entry) → Legal w h → Legal w k → HasMemory h → HasMemory k → map asked_of h ≡ map asked_of k → h ≡ k

-- ---- The law: memory lacks only where it may.
-- in each legal history, also of events that stand alone
abbrev pub MemoryLacksWhereItMay : Type 0
MemoryLacksWhereItMay = (w : World) (es : List Entry) → (Legal w es → LacksWhereItMay es) × (LegalAlone w es → LacksWhereItMay es)

-- ---- The law: what is no event leaves all as it was.
-- no step of a session, no merge, nor what was refused for memory, by the list of sessions or by that of jobs, is an event
abbrev pub IsNoEvent : Step → Told → Type 0
IsNoEvent (Event e) (Refused NoMemory) = Unit {0}
IsNoEvent (Event e) (Refused (TooLarge Sessions)) = Unit {0}
IsNoEvent (Event e) (Refused (NoSession slot)) = Unit {0}
IsNoEvent (Event e) (Refused (NoJob slot)) = Unit {0}
IsNoEvent (Event e) reply = ⊥
IsNoEvent step reply = Unit {0}

-- users, rights, tables and the clock stay as they were
abbrev pub Unmoved : Type 0
Unmoved = (w : World) (es : List Entry) (e : Entry) → IsNoEvent e.step e.reply → world_after w (e ∷ es) ≡ world_after w es
