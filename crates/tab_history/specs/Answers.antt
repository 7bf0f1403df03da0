-- To be believed. The answer to each step, which answers are left open, and what the step does.
use Rattle.std.specs.Prelude.{◌≡◌, ◌⊎◌, ℕ, ℤ, List, [], ◌∷◌, Bool, true, false, ◌&&◌, cond, Option, Some, None, length, nat_le}
use Rattle.tab_key.specs.Records.{Record, Cell}
use Rattle.tab_history.specs.Settings.{Settings}
use Rattle.tab_history.specs.Bases.{Base}
use Rattle.tab_history.specs.Changes.{Change, changes_of}
use Rattle.tab_history.specs.Readings.{user_count, table_count, settings_of, next_number, updates_of}
use Rattle.tab_cells.specs.Cells.{Query, cells}
use Rattle.tab_history.specs.Checks.{Caller, standing, refusal_of, many_checks, user_named, exists_in}
use Rattle.tab_mutation.specs.Shape.{first_some}
use Rattle.tab_history.specs.OwnRights.{own_rights}
use Rattle.tab_history.specs.Jobs.{JobMove, Beginning, Merging, Installing, job_in, is_waiting, is_merged}
use Rattle.tab_history.specs.Sessions.{Move, Opening, Taking, Closing, is_full, session_in}
use Rattle.tab_cells.specs.SessionState.{SessionState, batch, in_ranges}
use Rattle.tab_key.specs.declared.limited_part.LimitedPart.TheVariants.{Sessions, Numbers}
use Rattle.tab_key.specs.declared.range.Bounds.{Bounds}
use Rattle.tab_history.specs.declared.event.Scan.{Scan}
use Rattle.tab_history.specs.declared.event.Act.{Act}
use Rattle.tab_history.specs.declared.event.Act.TheVariants.{Open, Write, CreateTable, CreateUser, Rights as AsksRights, Status, AddSplit, SplitBySize, Splits, Begin, Install}
use Rattle.tab_history.specs.declared.event.Given.TheVariants.{InSlot, ByHand}
use Rattle.tab_history.specs.Kinds.{kind_of, is_untold}
use Rattle.tab_history.specs.declared.event.Step.{Step}
use Rattle.tab_history.specs.declared.event.Step.TheVariants.{Event, Next, Many, Close, Merge}
use Rattle.tab_history.specs.declared.counts.Counts.{Counts}
use Rattle.tab_history.specs.declared.split_fault.SplitFault.TheVariants.{Present, Small, OneRow}
use Rattle.tab_history.specs.declared.reply.Refusal.{Refusal}
use Rattle.tab_history.specs.declared.reply.Refusal.TheVariants.{TooLarge, NoSession, NoJob, Stale, BadSplit}
use Rattle.tab_history.specs.declared.reply.Reply.{Reply}
use Rattle.tab_history.specs.declared.reply.Reply.TheVariants.{Done, Refused, Opened, Batch, Ranges, Rights, Counted, Rows, Begun, Nothing}

-- a reply without the session or the job that goes with it
abbrev pub Told : Type 0
Told = Reply (Unit {0}) (Unit {0})

-- what is told of an opened session
abbrev pub told_opened : Told
told_opened = Opened tt

-- what is told of a job that was begun
abbrev pub told_begun : Told
told_begun = Begun tt

-- what is told of a reply
abbrev pub told_of : {S J : Type 0} → Reply S J → Told
told_of Done = Done
told_of (Refused refusal) = Refused refusal
told_of (Opened session) = told_opened
told_of (Batch cells) = Batch cells
told_of (Ranges ranges) = Ranges ranges
told_of (Rights rights) = Rights rights
told_of (Counted counts) = Counted counts
told_of (Rows rows) = Rows rows
told_of (Begun job) = told_begun
told_of Nothing = Nothing

-- the session that goes with a reply
abbrev pub session_of : {S J : Type 0} → Reply S J → Option S
session_of (Opened session) = Some session
session_of reply = None

-- the job that goes with a reply
abbrev pub job_of : {S J : Type 0} → Reply S J → Option J
job_of (Begun job) = Some job
job_of reply = None

-- ---- answers
-- What the caller is told of an event that isn't refused. Where that is left open (`MayTell`) Done stands here for all of it.
abbrev pub granted : Caller → Act → Told
granted c (Open scan) = told_opened
granted c (AsksRights t) = Rights (own_rights c t)
granted c act = Done

-- the refusal, if there is one
abbrev pub told : Option Refusal → Told → Told
told None reply = reply
told (Some r) reply = Refused r

-- Whether the numbers are used up that the act needs: a write's would be 2^64 - 1, or there are 2^32 - 1 tables or users already. How many
-- end rows there may be is no history's affair: what is reported of it is left open (`MayTell`).
abbrev pub are_used_up : Base → List Change → Act → Bool
are_used_up b j (Write t m) = nat_le 18446744073709551615 (next_number b j)
are_used_up b j (CreateTable t time n) = nat_le 4294967295 (table_count b j)
are_used_up b j (CreateUser n) = nat_le 4294967295 (user_count b j)
are_used_up b j act = false

-- the reply to what isn't refused by its checks: where the numbers are used up it is refused for that, last of all
abbrev pub numbered : Bool → Told → Told
numbered used_up reply = cond used_up (Refused (TooLarge Numbers)) reply

-- the answer to an event; now is the clock, with the event's own moment in it
abbrev pub event_answer : Base → List Change → ℤ → List ℕ → Act → Told
event_answer b j now user act = told (refusal_of (standing b j user) (exists_in b j (user_named act)) now user act) (numbered (are_used_up b j act) (granted (standing b j user) act))

-- whether the event opens a session
abbrev pub is_open : Act → Bool
is_open (Open scan) = true
is_open _ = false

-- the next n cells of the session in the slot
abbrev pub next_answer : Option SessionState → ℕ → ℕ → Told
next_answer None slot n = Refused (NoSession slot)
next_answer (Some held) slot n = Batch (batch held n)

-- what is wrong with the ranges, or else the session's whole answer in each of them, whatever was given of it
abbrev pub ranges_told : SessionState → List Bounds → Told
ranges_told held ranges = told (first_some (many_checks ranges)) (Ranges (in_ranges held ranges))

-- the same of the session in the slot; that there is none is told first
abbrev pub many_answer : Option SessionState → ℕ → List Bounds → Told
many_answer None slot ranges = Refused (NoSession slot)
many_answer (Some held) slot ranges = ranges_told held ranges

-- a session in the slot can be closed
abbrev pub close_answer : Option SessionState → ℕ → Told
close_answer None slot = Refused (NoSession slot)
close_answer (Some held) slot = Done

-- the merge of the job in the slot can be made, if it waits for that
abbrev pub merge_answer : Bool → ℕ → Told
merge_answer true slot = Done
merge_answer false slot = Refused (NoJob slot)

-- the slot, where it holds no finished merge
abbrev pub without_merge : List JobMove → ℕ → Option ℕ
without_merge jobs slot = cond (is_merged (job_in jobs slot)) None (Some slot)

-- the slot that an Install names with no finished merge in it; one that came with its merge names none
abbrev pub empty_slot : List JobMove → Act → Option ℕ
empty_slot jobs (Install t (InSlot slot)) = without_merge jobs slot
empty_slot jobs (Install t (ByHand job)) = None
empty_slot jobs act = None

-- that the slot holds no finished merge, if there is such a slot
abbrev pub slotted : Option ℕ → Told → Told
slotted None reply = reply
slotted (Some slot) reply = Refused (NoJob slot)

-- The answer to a step of a user whose sessions went through these moves, and all users' jobs through those. An Open past the limit of
-- sessions is refused before all else, and so is an Install by a slot without a finished merge. Where what is told is left open, this says
-- whether the step is refused, and why.
unfoldable pub answer : Base → List Change → List Move → List JobMove → ℤ → Step → Told
answer b j moves jobs now (Event e) = cond (is_open e.act && is_full moves) (Refused (TooLarge Sessions)) (slotted (empty_slot jobs e.act) (event_answer b j now e.user e.act))
answer b j moves jobs now (Next user slot n) = next_answer (session_in moves slot) slot n
answer b j moves jobs now (Many user slot ranges) = many_answer (session_in moves slot) slot ranges
answer b j moves jobs now (Close user slot) = close_answer (session_in moves slot) slot
answer b j moves jobs now (Merge slot) = merge_answer (is_waiting (job_in jobs slot)) slot

-- ---- open answers: no history tells where records lie, and so neither what is told of that
-- whether what is told of the event is left open, once no check refuses it
abbrev pub leaves_open : Act → Bool
leaves_open act = is_untold (kind_of act)

-- What may be told of an event that no check refuses. Of a Status it is any counts, of a Splits any rows. A split may be done, or refused for
-- where the table is split already, for what its tablet holds, or for the number of end rows. A Begin may begin a job or find nothing to merge;
-- an Install may be done, or refused where what was merged doesn't stand there any more, with any count of what does. Of each other act it is
-- the one answer, here plain.
abbrev pub MayTell : Act → Told → Told → Type 0
MayTell (Status t) plain reply = (counts : Counts) × (reply ≡ Counted counts)
MayTell (AddSplit t row) plain reply = (reply ≡ plain) ⊎ (reply ≡ Refused (BadSplit Present)) ⊎ (reply ≡ Refused (TooLarge Numbers))
MayTell (SplitBySize t row limit) plain reply = (reply ≡ plain) ⊎ (reply ≡ Refused (BadSplit Small)) ⊎ (reply ≡ Refused (BadSplit OneRow)) ⊎ (reply ≡ Refused (TooLarge Numbers))
MayTell (Splits t) plain reply = (rows : List (List ℕ)) × (reply ≡ Rows rows)
MayTell (Begin t row kind) plain reply = (reply ≡ told_begun) ⊎ (reply ≡ Nothing)
MayTell (Install t given) plain reply = (reply ≡ plain) ⊎ ((count : ℕ) × (reply ≡ Refused (Stale count)))
MayTell act plain reply = reply ≡ plain

-- The reply answers the act, of which plain is the answer: it is that refusal, or what may be told in the place of what isn't one.
abbrev pub IsEventReply : Act → Told → Told → Type 0
IsEventReply act (Refused r) reply = reply ≡ Refused r
IsEventReply act plain reply = MayTell act plain reply

-- the same of a step
abbrev pub IsReply : Step → Told → Told → Type 0
IsReply (Event e) plain reply = IsEventReply e.act plain reply
IsReply step plain reply = reply ≡ plain

-- ---- what a step does
-- what the scan asks of its table
abbrev pub query_of : Scan → Query
query_of scan = record { bounds = scan.bounds; columns = scan.columns; authorizations = scan.authorizations }

-- what a scan of a table with these settings shows
abbrev pub listed : List Record → Query → Option Settings → List Cell
listed us q None = []
listed us q (Some s) = cells us s.versions q

-- the whole answer of the session that the event opens
unfoldable pub session_list : Base → List Change → Act → List Cell
session_list b j (Open scan) = listed (updates_of b j scan.table) (query_of scan) (settings_of b j scan.table)
session_list b j _ = []

-- what a step and its reply change: nothing, where it was refused
abbrev pub changes_by : ℤ → Step → Told → List Change
changes_by now (Event e) (Refused r) = []
changes_by now (Event e) reply = changes_of now e.user e.act
changes_by now _ reply = []

-- what they do to the sessions of the step's user
abbrev pub moves_by : Base → List Change → Step → Told → List Move
moves_by b j (Event e) (Opened session) = cond (is_open e.act) (Opening (session_list b j e.act) ∷ []) []
moves_by b j (Next user slot n) (Batch cells) = Taking slot (length cells) ∷ []
moves_by b j (Close user slot) Done = Closing slot ∷ []
moves_by b j _ _ = []

-- a job was begun, where that is told
abbrev pub begun_by : Told → List JobMove
begun_by (Begun job) = Beginning ∷ []
begun_by reply = []

-- what an event and its reply do to the jobs; an Install names its slot, whatever it is told
abbrev pub event_job_moves : Act → Told → List JobMove
event_job_moves (Begin t row kind) reply = begun_by reply
event_job_moves (Install t (InSlot slot)) reply = Installing slot ∷ []
event_job_moves (Install t (ByHand job)) reply = []
event_job_moves act reply = []

-- what the merge of the job in the slot and its reply do: it is finished, where that was done, and else still to be made
abbrev pub merge_job_moves : ℕ → Told → List JobMove
merge_job_moves slot Done = Merging slot ∷ []
merge_job_moves slot reply = []

-- what a step and its reply do to the jobs, which all users share
abbrev pub job_moves_by : Step → Told → List JobMove
job_moves_by (Event e) reply = event_job_moves e.act reply
job_moves_by (Merge slot) reply = merge_job_moves slot reply
job_moves_by step reply = []
