-- For proofs. The laws that join a core's exact steps to histories: each is a right step, and keeps the core a store.
use Rattle.std.specs.Prelude.{◌≡◌, ℕ, List, [], ◌∷◌, Option, Some}
use Rattle.tab_history.specs.Held.{floor_of}
use Rattle.tab_history.specs.Answers.{Told}
use Rattle.tab_history.specs.Histories.{world_of, world_after}
use Rattle.tab_history.specs.Refinement.{ReadsAlike, IsSound}
use Rattle.tab_history.specs.Chains.{GoesRight, NamesNoSlot}
use Rattle.tab_history.specs.declared.event.Event.{Event}
use Rattle.tab_tablets.specs.Parts.{TabletMerge}
use Rattle.tab_store.specs.Stores.{TableContents, CoreContents, NamesRise, base_of, table_in, IsNewStore}
use Rattle.tab_store.specs.Stepping.{LaysExactly, now_at, plain_answer, entry_of}
use Rattle.tab_store.specs.Keeping.{AreSound}
use Rattle.tab_store.specs.Limits.{AreLimited}
use Rattle.tab_store.specs.Numbers.{IsNumbered}

-- ---- stores
-- the tables lie in the order of their names, the tablets of each are sound, at the clock, and within the limits, and each tablet has a
-- number of its own
pub record IsStore (h : CoreContents) : Type 0 where
  pub names : NamesRise h
  pub tables : (q : List ℕ) (t : TableContents) → table_in h q ≡ Some t → AreSound t.tablets h.next t.settings.versions (floor_of t.settings.time h.clock t.settings.horizon)
  pub limits : (q : List ℕ) (t : TableContents) → table_in h q ≡ Some t → AreLimited t.tablets
  pub numbers : IsNumbered h

-- ---- The law: a new core is one.
abbrev pub NewStoresAreStores : Type 0
NewStoresAreStores = (h : CoreContents) → IsNewStore h → IsStore h

-- ---- The law: what histories see of a store is sound.
abbrev pub StoresAreSound : Type 0
StoresAreSound = (h : CoreContents) → IsStore h → IsSound (world_of (base_of h))

-- ---- The laws of one step.
-- an event leaves the tablets of a store exactly so, and all that is read beside records as its entry says
pub record LeavesExactly (old : CoreContents) (given : Option TabletMerge) (event : Event) (told : Told) (job : Option TabletMerge) (new : CoreContents) : Type 0 where
  pub exact : LaysExactly old (now_at old event) given event.act (plain_answer old event) told job new
  pub reads : ReadsAlike (world_of (base_of new)) (world_after (world_of (base_of old)) (entry_of event told ∷ []))

-- then it is a right step
abbrev pub StepsAreRight : Type 0
StepsAreRight = (old new : CoreContents) (given job : Option TabletMerge) (event : Event) (told : Told) → IsStore old → NamesNoSlot event.act → LeavesExactly old given event told job new → GoesRight (base_of old) (entry_of event told) (base_of new)

-- and the new core is a store
abbrev pub StoresStay : Type 0
StoresStay = (old new : CoreContents) (given job : Option TabletMerge) (event : Event) (told : Told) → IsStore old → NamesNoSlot event.act → LeavesExactly old given event told job new → IsStore new
