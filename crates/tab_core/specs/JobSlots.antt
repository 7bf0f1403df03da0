-- To be believed by whoever relies on it. The jobs that a run keeps for all its users, each in the slot that is its number, and what steps do to them.
use Rattle.std.specs.Prelude.{ℕ, ◌≡◌, ◌⊎◌, Bool, true, false, List, [], ◌∷◌, ◌++◌, length, get_or, slice_get, slice_set, Option, Some, None}
use Rattle.tab_history.specs.declared.event.Act.{Act}
use Rattle.tab_history.specs.declared.event.Act.TheVariants.{Begin, Install}
use Rattle.tab_history.specs.declared.event.Event.{Event}
use Rattle.tab_history.specs.declared.event.Given.TheVariants.{InSlot}
use Rattle.tab_history.specs.declared.reply.Refusal.TheVariants.{NoMemory, NoJob}
use Rattle.tab_history.specs.declared.reply.Reply.{Reply}
use Rattle.tab_history.specs.declared.reply.Reply.TheVariants.{Done, Refused}
use Rattle.tab_history.specs.Jobs as job
use Rattle.tab_history.specs.Jobs.{JobMove, begun, job_in, is_waiting}
use Rattle.tab_history.specs.Answers.{Told, told_of, job_of, merge_answer}
use Rattle.tab_history.specs.Histories.{Entry}
use Rattle.tab_history.specs.Chains.{IsChain, NamesNoSlot}
use Rattle.tab_session.specs.OpenSession.{OpenSession}
use Rattle.tab_store.specs.Parts.{TabletMerge}
use Rattle.tab_store.specs.Stores.{CoreContents, base_of}
use Rattle.tab_store.specs.Stepping.{StepsExactly}
use Rattle.tab_store.specs.Chains.{Running, EntryGoes}
use Rattle.tab_core.specs.declared.job_slots.JobSlot.{JobSlot}
use Rattle.tab_core.specs.declared.job_slots.JobSlot.TheVariants.{Free, Waiting, Merged}
use Rattle.tab_core.specs.Stepping.{Steps, IsBySlot, installs_at}

-- ---- slots
-- what a slot holds, as histories see it
abbrev pub seen : JobSlot → job.JobSlot
seen Free = job.Free
seen (Waiting m) = job.Waiting
seen (Merged m) = job.Merged

-- what the slot k holds: nothing, where no job was begun in it yet
abbrev pub slot_in : List JobSlot → ℕ → JobSlot
slot_in slots k = get_or slots k Free

-- the merge in a slot, whether it was made or is still to be made
abbrev pub merge_in : JobSlot → Option TabletMerge
merge_in Free = None
merge_in (Waiting m) = Some m
merge_in (Merged m) = Some m

-- the finished merge in a slot
abbrev pub finished_in : JobSlot → Option TabletMerge
finished_in Free = None
finished_in (Waiting m) = None
finished_in (Merged m) = Some m

-- what a slot holds once a finished merge was taken out of it
abbrev pub freed : JobSlot → JobSlot
freed Free = Free
freed (Waiting m) = Waiting m
freed (Merged m) = Free

-- the slots are what these moves made of them
pub record JobsAre (moves : List JobMove) (slots : List JobSlot) : Type 0 where
  pub count : begun moves ≡ length slots
  pub kept : (k : ℕ) → job_in moves k ≡ seen (slot_in slots k)

-- of these merges, in the order in which they were begun, the slots hold those that aren't used up
pub record HoldMerges (slots : List JobSlot) (merges : List TabletMerge) : Type 0 where
  pub count : length merges ≡ length slots
  pub holds : (k : ℕ) (m : TabletMerge) → merge_in (slot_in slots k) ≡ Some m → slice_get merges k ≡ Some m

-- From whatever merges the slots hold, these entries are a chain of exact steps to some that the new slots hold.
abbrev pub GoesExactly : CoreContents → List JobSlot → List Entry → CoreContents → List JobSlot → Type 0
GoesExactly old slots es new slots' = (merges : List TabletMerge) → HoldMerges slots merges
    → (merges' : List TabletMerge) × HoldMerges slots' merges' × IsChain EntryGoes (record { held = old; begun = merges }) es (record { held = new; begun = merges' })

-- ---- a Merge
-- what a merge that was made leaves in its slot
abbrev pub made : JobSlot → JobSlot
made Free = Free
made (Waiting m) = Merged m
made (Merged m) = Merged m

-- the same after this reply
abbrev pub after_made : JobSlot → Told → JobSlot
after_made s Done = made s
after_made s _ = s

-- the slots after this reply to a Merge
abbrev pub after_merge : List JobSlot → ℕ → Told → List JobSlot
after_merge slots k reply = slice_set slots k (after_made (slot_in slots k) reply)

-- a Merge is answered from its slot, or memory lacked for the merge that was to be made
pub record MergesIn (old : List JobSlot) (slot : ℕ) (reply : Told) (new : List JobSlot) : Type 0 where
  pub answers : (reply ≡ merge_answer (is_waiting (seen (slot_in old slot))) slot) ⊎ ((is_waiting (seen (slot_in old slot)) ≡ true) × (reply ≡ Refused NoMemory))
  pub after : new ≡ after_merge old slot reply

-- ---- an event
-- whether the act begins a job
abbrev pub is_begin : Act → Bool
is_begin (Begin t row kind) = true
is_begin _ = false

-- the slots with the job that was handed out, if there is one
abbrev pub kept_job : List JobSlot → Option TabletMerge → List JobSlot
kept_job slots None = slots
kept_job slots (Some m) = slots ++ Waiting m ∷ []

-- Memory lacked for the slot of a job that was to begin: nothing happened.
pub record LacksRoom (old : CoreContents) (slots : List JobSlot) (event : Event) (reply : Told) (new : CoreContents) (slots' : List JobSlot) : Type 0 where
  pub begins : is_begin event.act ≡ true
  pub told : reply ≡ Refused NoMemory
  pub core : new ≡ old
  pub same : slots' ≡ slots

-- An Install by a slot that holds no finished merge: nothing happened.
pub record FindsNone (old : CoreContents) (slots : List JobSlot) (event : Event) (reply : Told) (new : CoreContents) (slots' : List JobSlot) : Type 0 where
  pub slot : ℕ
  pub names : IsBySlot event.act slot
  pub holds : finished_in (slot_in slots slot) ≡ None
  pub told : reply ≡ Refused (NoJob slot)
  pub core : new ≡ old
  pub same : slots' ≡ slots

-- An Install by a slot that holds a finished merge: the core was given that merge, which is used up, whatever was told.
pub record UsesUp (old : CoreContents) (slots : List JobSlot) (event : Event) (reply : Told) (new : CoreContents) (slots' : List JobSlot) : Type 0 where
  pub table : List ℕ
  pub slot : ℕ
  pub merge : TabletMerge
  pub names : event.act ≡ Install table (InSlot slot)
  pub holds : finished_in (slot_in slots slot) ≡ Some merge
  pub answer : Reply OpenSession TabletMerge
  pub steps : Steps (base_of old) (installs_at event.user event.moment table merge) answer (base_of new)
  pub exact : StepsExactly old (Some merge) (installs_at event.user event.moment table merge) (told_of answer) (job_of answer) new
  pub told : reply ≡ told_of answer
  pub used : slots' ≡ slice_set slots slot Free

-- Any other event: the core answered it, and a job that it handed out is kept in the next slot.
pub record KeepsJob (old : CoreContents) (slots : List JobSlot) (event : Event) (reply : Told) (new : CoreContents) (slots' : List JobSlot) : Type 0 where
  pub alone : NamesNoSlot event.act
  pub answer : Reply OpenSession TabletMerge
  pub steps : Steps (base_of old) event answer (base_of new)
  pub exact : StepsExactly old None event (told_of answer) (job_of answer) new
  pub told : reply ≡ told_of answer
  pub kept : slots' ≡ kept_job slots (job_of answer)

-- an event of a run
abbrev pub StepsIn : CoreContents → List JobSlot → Event → Told → CoreContents → List JobSlot → Type 0
StepsIn old slots event reply new slots' = LacksRoom old slots event reply new slots' ⊎ FindsNone old slots event reply new slots' ⊎ UsesUp old slots event reply new slots' ⊎ KeepsJob old slots event reply new slots'
