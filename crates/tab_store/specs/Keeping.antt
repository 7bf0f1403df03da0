-- For proofs. When tablets refine the updates of their table, and that whatever is done to them leaves them so.
use Rattle.std.specs.Prelude.{◌≡◌, ◌⊎◌, ℕ, ℤ, ◌+◌, ◌≤◌, ◌<◌, List, [], ◌∷◌, ◌++◌, Bool, true, false, not, int_le, filter, Contains, Option, Some, None}
use Rattle.tab_key.specs.Records.{Record}
use Rattle.tab_key.specs.Sorted.{sorted, IsDistinct}
use Rattle.tab_cells.specs.Written.{TimedUpdate, records_of, mutation_records}
use Rattle.tab_cells.specs.declared.compaction.Compaction.{Compaction}
use Rattle.tab_cells.specs.Compactions.{is_full}
use Rattle.tab_tablets.specs.Merges.{Merge}
use Rattle.tab_tablets.specs.Sources.{records_of as records_in_sources}
use Rattle.tab_tablets.specs.Tablets.{Jobs, Tablet, job_of, is_up_to, new_tablet, records_in, written, frozen, compacted, begins, installed}
use Rattle.tab_tablets.specs.Splitting.{lower_at, upper_at, middle_row, rows_in}
use Rattle.tab_tablets.specs.ByRow.{AreWhole, tablet_of, records_of_all, LieApart, is_end}
use Rattle.tab_history.specs.Settings.{Settings}
use Rattle.tab_history.specs.Readings.{settings_of, updates_of}
use Rattle.tab_history.specs.Held.{RefinesTable}
use Rattle.tab_history.specs.Answers.{Told}
use Rattle.tab_store.specs.Stores.{TableContents, CoreContents, base_of, table_in, tablets_in}
use Rattle.tab_store.specs.Stepping.{TabletWork, Freezing, Writing, Compacting, Counting, Splitting, Halving, Listing, Beginning, Installing, WorkContext, floor_at, lays}

-- ---- one tablet
-- A merge under way may still be installed, as far as its table's deletes and versions go: it keeps enough versions, its floor isn't above
-- the present one, and if it is a full one, whatever is held beside its inputs lies at or above its floor.
pub record MayInstall (kind : Compaction) (m : Merge) (held : List Record) (n : ℕ) (floor : ℤ) : Type 0 where
  pub enough : n ≤ m.versions
  pub lower : int_le m.floor floor ≡ true
  pub above : is_full kind ≡ true → (u : Record) → Contains held u → Contains (records_in_sources m.inputs) u ⊎ (int_le m.floor u.key.timestamp ≡ true)

-- each merge under way may
abbrev pub MayAllInstall : Jobs → List Record → ℕ → ℤ → Type 0
MayAllInstall jobs held n floor = (kind : Compaction) (m : Merge) → job_of kind jobs ≡ Some m → MayInstall kind m held n floor

-- what a tablet holds refines the updates in its rows, and its merges under way may still be installed
pub record TabletRefines (t : Tablet) (us : List Record) (next n : ℕ) (floor : ℤ) : Type 0 where
  pub refines : RefinesTable (records_in t) us next n floor
  pub jobs : MayAllInstall t.jobs (records_in t) n floor

-- ---- The laws of one tablet: each thing that is done to it leaves it so.
abbrev pub FreezesKeep : Type 0
FreezesKeep = (t : Tablet) (us : List Record) (next n : ℕ) (floor : ℤ) → TabletRefines t us next n floor → TabletRefines (frozen t) us next n floor

-- a write at or above the floor
abbrev pub WritesKeep : Type 0
WritesKeep = (t : Tablet) (us : List Record) (next n : ℕ) (floor : ℤ) (row : List ℕ) (ps : List TimedUpdate) → ((u : Record) → Contains (records_of next row ps) u → int_le floor u.key.timestamp ≡ true)
    → TabletRefines t us next n floor → TabletRefines (written (records_of next row ps) t) (records_of next row ps ++ us) (next + 1) n floor

-- a whole compaction, at the present floor and number of versions
abbrev pub CompactionsKeep : Type 0
CompactionsKeep = (kind : Compaction) (t : Tablet) (us : List Record) (next n : ℕ) (floor : ℤ) → TabletRefines t us next n floor → TabletRefines (compacted kind floor n t) us next n floor

-- a merge that begins
abbrev pub BeginningsKeep : Type 0
BeginningsKeep = (number : ℕ) (kind : Compaction) (t : Tablet) (us : List Record) (next n : ℕ) (floor : ℤ) → TabletRefines t us next n floor → TabletRefines (begins number kind floor n t) us next n floor

-- a merge that is installed, whichever came
abbrev pub InstallsKeep : Type 0
InstallsKeep = (m : Merge) (t : Tablet) (us : List Record) (next n : ℕ) (floor : ℤ) → TabletRefines t us next n floor → TabletRefines (installed m t).1 us next n floor

-- a clock or a horizon that rises
abbrev pub LaterKeeps : Type 0
LaterKeeps = (t : Tablet) (us : List Record) (next n : ℕ) (floor higher : ℤ) → int_le floor higher ≡ true → TabletRefines t us next n floor → TabletRefines t us next n higher

-- a number of versions that is lowered
abbrev pub FewerKeeps : Type 0
FewerKeeps = (t : Tablet) (us : List Record) (next n fewer : ℕ) (floor : ℤ) → fewer ≤ n → TabletRefines t us next n floor → TabletRefines t us next fewer floor

-- whether a record's row is up to an end row, or above it
abbrev pub is_low : Option (List ℕ) → Record → Bool
is_low end u = is_up_to end u.key.row

abbrev pub is_high : Option (List ℕ) → Record → Bool
is_high end u = not (is_up_to end u.key.row)

-- a split, whose two tablets refine the updates in their rows each
abbrev pub SplitsKeep : Type 0
SplitsKeep = (row : List ℕ) (lower upper : ℕ) (t : Tablet) (us : List Record) (next n : ℕ) (floor : ℤ) → TabletRefines t us next n floor
    → TabletRefines (lower_at row lower t) (filter (is_low (Some row)) us) next n floor × TabletRefines (upper_at row upper t) (filter (is_high (Some row)) us) next n floor

-- ---- all tablets of a table
-- Each tablet refines the updates in its rows: those up to its end row, and not up to the end row of one before it.
abbrev pub TabletsRefine : List Tablet → List Record → ℕ → ℕ → ℤ → Type 0
TabletsRefine [] us next n floor = us ≡ []
TabletsRefine (t ∷ ts) us next n floor = TabletRefines t (filter (is_low t.end) us) next n floor × TabletsRefine ts (filter (is_high t.end) us) next n floor

-- ---- The law: so all that the table holds refines all its updates.
abbrev pub TabletsHoldAll : Type 0
TabletsHoldAll = (ts : List Tablet) (us : List Record) (next n : ℕ) (floor : ℤ) → IsDistinct us → ((u : Record) → Contains us u → u.seq < next) → TabletsRefine ts us next n floor → RefinesTable (records_of_all ts) us next n floor

-- ---- The law: whatever work does to the tablets of its table leaves them so, for the updates that there are then.
-- the updates of the table afterwards
abbrev pub updates_after : WorkContext → TabletWork → List Record → List Record
updates_after p Freezing us = us
updates_after p (Writing m) us = mutation_records p.next p.now m ++ us
updates_after p (Compacting kind) us = us
updates_after p Counting us = us
updates_after p (Splitting row) us = us
updates_after p (Halving row limit) us = us
updates_after p Listing us = us
updates_after p (Beginning row kind) us = us
updates_after p (Installing given) us = us

-- the number of the next write afterwards
abbrev pub next_after : WorkContext → TabletWork → ℕ
next_after p Freezing = p.next
next_after p (Writing m) = p.next + 1
next_after p (Compacting kind) = p.next
next_after p Counting = p.next
next_after p (Splitting row) = p.next
next_after p (Halving row limit) = p.next
next_after p Listing = p.next
next_after p (Beginning row kind) = p.next
next_after p (Installing given) = p.next

-- a write has no timestamp below the floor
abbrev pub IsRecent : WorkContext → TabletWork → Type 0
IsRecent p Freezing = Unit {0}
IsRecent p (Writing m) = (u : Record) → Contains (mutation_records p.next p.now m) u → int_le (floor_at p) u.key.timestamp ≡ true
IsRecent p (Compacting kind) = Unit {0}
IsRecent p Counting = Unit {0}
IsRecent p (Splitting row) = Unit {0}
IsRecent p (Halving row limit) = Unit {0}
IsRecent p Listing = Unit {0}
IsRecent p (Beginning row kind) = Unit {0}
IsRecent p (Installing given) = Unit {0}

abbrev pub WorkKeeps : Type 0
WorkKeeps = (p : WorkContext) (work : TabletWork) (plain : Told) (ts : List Tablet) (us : List Record) → AreWhole ts → IsRecent p work
    → TabletsRefine ts us p.next p.settings.versions (floor_at p) → TabletsRefine (lays p work plain ts).1 (updates_after p work us) (next_after p work) p.settings.versions (floor_at p)

-- ---- The law: and each row has one tablet still. (That the row in the middle of a tablet is no end row is known of its own rows.)
abbrev pub StaysWhole : Type 0
StaysWhole = (p : WorkContext) (work : TabletWork) (plain : Told) (ts : List Tablet) (us : List Record) → AreWhole ts → TabletsRefine ts us p.next p.settings.versions (floor_at p) → AreWhole (lays p work plain ts).1

-- ---- What a core keeps of a table's tablets by itself, whichever histories it refines.
-- each row has one tablet; no two records stand at one place, and their numbers are used up; and the tablets refine what they hold
pub record AreSound (ts : List Tablet) (next n : ℕ) (floor : ℤ) : Type 0 where
  pub whole : AreWhole ts
  pub once : IsDistinct (records_of_all ts)
  pub numbered : (u : Record) → Contains (records_of_all ts) u → u.seq < next
  pub refines : TabletsRefine ts (sorted (records_of_all ts)) next n floor

-- ---- The law: then what one tablet holds lies before what the next one holds.
abbrev pub SoundTabletsLieApart : Type 0
SoundTabletsLieApart = (ts : List Tablet) (next n : ℕ) (floor : ℤ) → AreSound ts next n floor → LieApart ts

-- ---- The law: and the row in the middle of what one of them holds lies in its own rows, and is no end row.
abbrev pub MiddlesLieInside : Type 0
MiddlesLieInside = (ts : List Tablet) (next n : ℕ) (floor : ℤ) (row middle : List ℕ) (t : Tablet) → AreSound ts next n floor → tablet_of row ts ≡ Some t → middle_row (rows_in t) ≡ Some middle
    → (tablet_of middle ts ≡ Some t) × (is_end middle ts ≡ false)

-- ---- The law: and where all that a sound table holds refines some updates, each of its tablets refines those in its rows.
abbrev pub EachTabletRefines : Type 0
EachTabletRefines = (ts : List Tablet) (us : List Record) (next n : ℕ) (floor : ℤ) → AreSound ts next n floor → RefinesTable (sorted (records_of_all ts)) us next n floor → TabletsRefine ts us next n floor

-- ---- The law: all work keeps it; and what the table holds then refines what it held before, with what was written.
-- the work goes on well
pub record GoesOnWell (p : WorkContext) (work : TabletWork) (ts after : List Tablet) : Type 0 where
  pub sound : AreSound after (next_after p work) p.settings.versions (floor_at p)
  pub refines : RefinesTable (sorted (records_of_all after)) (updates_after p work (sorted (records_of_all ts))) (next_after p work) p.settings.versions (floor_at p)

abbrev pub WorkStaysSound : Type 0
WorkStaysSound = (p : WorkContext) (work : TabletWork) (plain : Told) (ts : List Tablet) → AreSound ts p.next p.settings.versions (floor_at p) → IsRecent p work → GoesOnWell p work ts (lays p work plain ts).1

-- ---- The law: a table begins so.
abbrev pub NewTablesAreSound : Type 0
NewTablesAreSound = (number next n : ℕ) (floor : ℤ) → AreSound (new_tablet number None ∷ []) next n floor

-- ---- The law: it stays so while the clock or the horizon rises, and where other tables are written.
abbrev pub SoundLater : Type 0
SoundLater = (ts : List Tablet) (next more n : ℕ) (floor higher : ℤ) → int_le floor higher ≡ true → AreSound ts next n floor → AreSound ts (next + more) n higher

-- ---- The law: and so it stays with fewer versions.
abbrev pub SoundWithFewer : Type 0
SoundWithFewer = (ts : List Tablet) (next n fewer : ℕ) (floor : ℤ) → fewer ≤ n → AreSound ts next n floor → AreSound ts next fewer floor

-- ---- The law: what histories read of a core is what its tablets hold.
-- a table's settings, if it exists
abbrev pub settings_in : Option TableContents → Option Settings
settings_in None = None
settings_in (Some t) = Some t.settings

-- the settings, and one rising list of all records of the tablets
abbrev pub BasesRead : Type 0
BasesRead = (h : CoreContents) (q : List ℕ) → (settings_of (base_of h) [] q ≡ settings_in (table_in h q)) × (updates_of (base_of h) [] q ≡ sorted (records_of_all (tablets_in h q)))
