-- To be believed by whoever relies on it. Chains of exact steps: what a run did to the tablets of its core.
use Rattle.std.specs.Prelude.{◌≡◌, ◌⊎◌, ℕ, List, [], ◌++◌, Option, Some, None, IfSome, slice_get, option_to_list}
use Rattle.tab_tablets.specs.Parts.{TabletMerge}
use Rattle.tab_history.specs.Answers.{Told}
use Rattle.tab_history.specs.Histories.{Entry, world_of, world_after}
use Rattle.tab_history.specs.Legal.{LegalAlone}
use Rattle.tab_history.specs.Refinement.{Refines}
use Rattle.tab_history.specs.Chains.{IsChain}
use Rattle.tab_history.specs.Runs.{IsNoEvent}
use Rattle.tab_history.specs.declared.event.Act.{Act}
use Rattle.tab_history.specs.declared.event.Act.TheVariants.{Install}
use Rattle.tab_history.specs.declared.event.Event.{Event}
use Rattle.tab_history.specs.declared.event.Given.TheVariants.{InSlot, ByHand}
use Rattle.tab_history.specs.declared.event.Step.{Step}
use Rattle.tab_history.specs.declared.event.Step.TheVariants.{Event as IsEvent}
use Rattle.tab_store.specs.Stores.{CoreContents, base_of, IsNewStore}
use Rattle.tab_store.specs.Stepping.{StepsExactly}
use Rattle.tab_store.specs.Rightness.{IsStore}

-- ---- a core by itself, as a book has it
-- the merge that came with an Install by hand has the number that it tells; with no other act came any
abbrev pub CameWith : Act → Option TabletMerge → Type 0
CameWith (Install t (ByHand number)) given = IfSome given (λ m. m.merge.number ≡ number)
CameWith act given = given ≡ None

-- the step is an event, and was done exactly
abbrev pub DoesExactly : CoreContents → Step → Told → CoreContents → Type 0
DoesExactly before (IsEvent event) told after = (given job : Option TabletMerge) × CameWith event.act given × StepsExactly before given event told job after
DoesExactly before step told after = ⊥

-- the same of an entry
abbrev pub EventGoes : CoreContents → Entry → CoreContents → Type 0
EventGoes before e after = DoesExactly before e.step e.reply after

-- What is no event leaves all as it was: a step of a session, a merge, and what memory or the lists of sessions and jobs refused.
abbrev pub StaysAt : {Core : Type 0} → Core → Entry → Core → Type 0
StaysAt before e after = IsNoEvent e.step e.reply × (after ≡ before)

-- ---- a core behind a connection, with whose events no merge comes
abbrev pub DoesAlone : CoreContents → Step → Told → CoreContents → Type 0
DoesAlone before (IsEvent event) told after = (job : Option TabletMerge) × StepsExactly before None event told job after
DoesAlone before step told after = ⊥

-- an event that was done exactly, or what is none
abbrev pub ServedGoes : CoreContents → Entry → CoreContents → Type 0
ServedGoes before e after = DoesAlone before e.step e.reply after ⊎ StaysAt before e after

-- ---- a core in a run, where merges have slots
-- what it holds, and the merges that were begun in the run, in their order
pub record Running : Type 0 where
  pub held : CoreContents
  pub begun : List TabletMerge

-- as a run begins
abbrev pub starting : CoreContents → Running
starting h = record { held = h; begun = [] }

-- the merge that comes with an act, of those begun: with an Install by a slot the one of that slot
abbrev pub given_in : List TabletMerge → Act → Option TabletMerge
given_in begun (Install t (InSlot slot)) = slice_get begun slot
given_in begun act = None

-- its number
abbrev pub number_of : Option TabletMerge → ℕ
number_of None = 0
number_of (Some m) = m.merge.number

-- the event as the core is asked: an Install by a slot came with its merge
abbrev pub act_by_hand : List TabletMerge → Act → Act
act_by_hand begun (Install t (InSlot slot)) = Install t (ByHand (number_of (slice_get begun slot)))
act_by_hand begun act = act

abbrev pub by_hand : List TabletMerge → Event → Event
by_hand begun event = record event { act = act_by_hand begun event.act }

-- the step is an event, and was done exactly; a merge that it began has the next slot
abbrev pub RunsExactly : Running → Step → Told → Running → Type 0
RunsExactly before (IsEvent event) told after = (job : Option TabletMerge) × StepsExactly before.held (given_in before.begun event.act) (by_hand before.begun event) told job after.held × (after.begun ≡ before.begun ++ option_to_list job)
RunsExactly before step told after = ⊥

-- an event that was done exactly, or what is none
abbrev pub EntryGoes : Running → Entry → Running → Type 0
EntryGoes before e after = RunsExactly before e.step e.reply after ⊎ StaysAt before e after

-- the events of these entries are a chain of exact steps of a core that was new
abbrev pub IsExactRun : List Entry → Type 0
IsExactRun es = (first : CoreContents) × (last : Running) × IsNewStore first × IsChain EntryGoes (starting first) es last

-- ---- The law: a chain of a store ends in one, which refines what its entries leave.
abbrev pub ChainsStay : Type 0
ChainsStay = (first last : Running) (es : List Entry) → IsStore first.held → IsChain EntryGoes first es last → IsStore last.held × Refines (world_of (base_of last.held)) (world_after (world_of (base_of first.held)) es)

-- ---- The law: a chain of events alone is a legal history.
abbrev pub ChainsAreLegal : Type 0
ChainsAreLegal = (first last : CoreContents) (es : List Entry) → IsStore first → IsChain EventGoes first es last → LegalAlone (world_of (base_of first)) es
