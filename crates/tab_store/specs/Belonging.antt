-- To be believed by whoever relies on it. To which table a merge belongs, as long as there are numbers: an install finds its tablet as by the number alone, and in no other table.
use Rattle.std.specs.Prelude.{◌≡◌, ◌≢◌, ◌⊎◌, ◌<◌, ℕ, ℤ, List, [], true, false, ◌==◌, Option, Some, None, find, map}
use Rattle.std.specs.Option.{option_map}
use Rattle.tab_cells.specs.declared.compaction.Compaction.{Compaction}
use Rattle.tab_tablets.specs.Tablets.{Tablet, installed}
use Rattle.tab_tablets.specs.ByRow.{at_row, tablet_of}
use Rattle.tab_tablets.specs.Parts.{TabletMerge, installs_in}
use Rattle.tab_tablets.specs.declared.Installed.{Installed}
use Rattle.tab_tablets.specs.declared.Installed.TheVariants as installed
use Rattle.tab_history.specs.Answers.{Told}
use Rattle.tab_history.specs.Histories.{Entry}
use Rattle.tab_history.specs.Chains.{IsChain}
use Rattle.tab_history.specs.declared.event.Act.{Act}
use Rattle.tab_history.specs.declared.event.Act.TheVariants.{Begin, Install}
use Rattle.tab_history.specs.declared.event.Given.{Given}
use Rattle.tab_history.specs.declared.reply.Refusal.TheVariants.{NoMemory, Stale}
use Rattle.tab_history.specs.declared.reply.Reply.TheVariants.{Done, Refused}
use Rattle.tab_store.specs.Stores.{CoreContents, tablets_in}
use Rattle.tab_store.specs.Stepping.{LaysExactly}
use Rattle.tab_store.specs.Chains.{Running, EntryGoes}
use Rattle.tab_store.specs.Numbers.{has_number, IsNumbered}

-- ---- The law: chains of exact steps, as a run is one, leave no two tablets of a core with the same number.
abbrev pub ChainsKeepNumbers : Type 0
ChainsKeepNumbers = (first last : Running) (es : List Entry) → IsNumbered first.held → IsChain EntryGoes first es last → IsNumbered last.held

-- ---- installs by number
-- the first of some tablets with this number
abbrev pub with_number : ℕ → List Tablet → Option Tablet
with_number k ts = find (λ (t : Tablet). t.number == k) ts

-- a merge is installed in this tablet, which has the number of its own: no other one changes
abbrev pub installed_with : TabletMerge → Option Tablet → List Tablet → Installed × List Tablet
installed_with m None ts = (installed.Stale 0, ts)
installed_with m (Some t) ts = ((installed m.merge t).0, map (λ (x : Tablet). (installed m.merge x).1) ts)

-- of some tablets all but that of the row
abbrev pub beside_row : List ℕ → List Tablet → List Tablet
beside_row row ts = at_row row (λ (t : Tablet). []) ts

-- The law: where no tablet but that of its row has the number of a merge's tablet, the merge is installed as by the number alone.
abbrev pub InstallsByNumber : Type 0
InstallsByNumber = (m : TabletMerge) (ts : List Tablet) → has_number m.merge.tablet (beside_row m.row ts) ≡ false → installs_in m ts ≡ installed_with m (with_number m.merge.tablet ts) ts

-- The law: where no tablet has that number, it is stale, with no source, and all tablets, with their merges under way, stay as they were.
abbrev pub OthersAreStale : Type 0
OthersAreStale = (m : TabletMerge) (ts : List Tablet) → has_number m.merge.tablet ts ≡ false → installs_in m ts ≡ (installed.Stale 0, ts)

-- ---- the table of a merge
-- Of tables by name none but this one has a tablet with the number of the merge's, nor has a tablet of this one but that of the merge's row;
-- and the number was given before the next one.
pub record BelongsTo (q : List ℕ) (m : TabletMerge) (tables : List ℕ → List Tablet) (next : ℕ) : Type 0 where
  pub table : (r : List ℕ) → has_number m.merge.tablet (tables r) ≡ true → r ≡ q
  pub row : has_number m.merge.tablet (beside_row m.row (tables q)) ≡ false
  pub given : m.merge.tablet < next

-- the merge belongs to this table of a core, as long as there are numbers
abbrev pub Belongs : List ℕ → TabletMerge → CoreContents → Type 0
Belongs q m h = h.tablet < 18446744073709551615 → BelongsTo q m (tablets_in h) h.tablet

-- The law: a merge that a Begin hands out has the number of the tablet of its row, in the table that was named, and belongs to that table.
abbrev pub BegunBelong : Type 0
BegunBelong = (old new : CoreContents) (now : ℤ) (given : Option TabletMerge) (t row : List ℕ) (kind : Compaction) (plain told : Told) (m : TabletMerge) → IsNumbered old → LaysExactly old now given (Begin t row kind) plain told (Some m) new
    → (option_map (λ (x : Tablet). x.number) (tablet_of m.row (tablets_in new t)) ≡ Some m.merge.tablet) × Belongs t m new

-- The laws: it belongs to it still after each exact step, and after each chain of exact steps.
abbrev pub BelongingStays : Type 0
BelongingStays = (old new : CoreContents) (now : ℤ) (given job : Option TabletMerge) (act : Act) (plain told : Told) (q : List ℕ) (m : TabletMerge) → LaysExactly old now given act plain told job new → Belongs q m old → Belongs q m new

abbrev pub BegunBelongOn : Type 0
BegunBelongOn = (first last : Running) (es : List Entry) (q : List ℕ) (m : TabletMerge) → IsChain EntryGoes first es last → Belongs q m first.held → Belongs q m last.held

-- The law: an Install that names another table, where no check refuses it, is told that it is stale, with no source, unless memory lacked;
-- and no tablet changes, nor any merge under way.
abbrev pub ElsewhereIsStale : Type 0
ElsewhereIsStale = (old new : CoreContents) (now : ℤ) (job : Option TabletMerge) (q r : List ℕ) (by : Given) (m : TabletMerge) (told : Told) → old.tablet < 18446744073709551615 → Belongs q m old → r ≢ q
    → LaysExactly old now (Some m) (Install r by) Done told job new → ((told ≡ Refused (Stale 0)) ⊎ (told ≡ Refused NoMemory)) × ((s : List ℕ) → tablets_in new s ≡ tablets_in old s)
