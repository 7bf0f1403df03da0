-- To be believed by whoever relies on it. Where work that is due is to be done: in the tablet that is due.
use Rattle.std.specs.Prelude.{◌≡◌, ◌<◌, ℕ, List, true, Some, None}
use Rattle.std.specs.Option.{option_map}
use Rattle.tab_tablets.specs.Tablets.{Tablet}
use Rattle.tab_tablets.specs.TabletDue.{is_due}
use Rattle.tab_tablets.specs.ByRow.{AreWhole, tablet_of}
use Rattle.tab_tablets.specs.Due.{start_of}
use Rattle.tab_store.specs.Stores.{CoreContents, tablets_in}
use Rattle.tab_store.specs.Rightness.{IsStore}
use Rattle.tab_store.specs.Due.{due_in, target_of}
use Rattle.tab_store.specs.declared.due.Due.{Due}

-- The law: the least row of the first tablet with a number lies in that tablet, which is so the tablet of that row.
abbrev pub StartsLieInside : Type 0
StartsLieInside = (k : ℕ) (ts : List Tablet) (row : List ℕ) → AreWhole ts → start_of k None ts ≡ Some row → option_map (λ (t : Tablet). t.number) (tablet_of row ts) ≡ Some k

-- the tablet of this row, in the table of this name, is due for the work, and has the number that it tells
pub record IsTarget (h : CoreContents) (work : Due) (name row : List ℕ) : Type 0 where
  pub told : target_of work h.tables ≡ Some (name, row)
  pub tablet : Tablet
  pub there : tablet_of row (tablets_in h name) ≡ Some tablet
  pub number : tablet.number ≡ work.tablet
  pub due : is_due work.kind tablet ≡ true

-- The law: as long as there are numbers, work that is due has a target, which is the tablet that is due.
abbrev pub TargetsAreDue : Type 0
TargetsAreDue = (h : CoreContents) (due : Due) → IsStore h → h.tablet < 18446744073709551615 → due_in h.tables ≡ Some due → (name : List ℕ) × (row : List ℕ) × IsTarget h due name row
