-- To be believed by whoever relies on it. What a core holds: tables of tablets, beside the clock, the number of the next write, and the users with their rights.
use Rattle.std.specs.Prelude.{◌≡◌, ℕ, ℤ, List, [], Option, Some, None, find, length, map, min, sum, bytes_eq}
use Rattle.std.specs.List.Sorted.{IsStrictlySortedBy}
use Rattle.tab_key.specs.Bytes.{bytes_cmp}
use Rattle.tab_key.specs.Sorted.{sorted}
use Rattle.tab_policy.specs.State.{State}
use Rattle.tab_tablets.specs.Sources.{count_of}
use Rattle.tab_tablets.specs.Tablets.{Tablet}
use Rattle.tab_tablets.specs.ByRow.{records_of_all}
use Rattle.tab_history.specs.Settings.{Settings}
use Rattle.tab_history.specs.Bases.{BaseTable, Base}
use Rattle.tab_history.specs.Refinement.{IsNewCore}
use Rattle.tab_history.specs.declared.counts.Counts.{Counts}

-- a table: its settings, and its tablets, those of lower rows first
pub record TableContents : Type 0 where
  pub name : List ℕ
  pub settings : Settings
  pub tablets : List Tablet

-- all that a core holds: the clock, the number that the next accepted write gets, users and rights, the tables, and the numbers that the
-- next tablet and the next job get
pub record CoreContents : Type 0 where
  pub clock : ℤ
  pub next : ℕ
  pub policy : State
  pub tables : List TableContents
  pub tablet : ℕ
  pub job : ℕ

-- the names of these tables rise strictly
abbrev pub RiseByName : List TableContents → Type 0
RiseByName ts = IsStrictlySortedBy bytes_cmp (map (λ (t : TableContents). t.name) ts)

-- those of the tables of a core do
abbrev pub NamesRise : CoreContents → Type 0
NamesRise h = RiseByName h.tables

-- ---- what histories see of it
-- a table as one rising list of all records that its tablets hold
abbrev pub base_table_of : TableContents → BaseTable
base_table_of t = record { name = t.name; settings = t.settings; records = sorted (records_of_all t.tablets) }

-- where records lie, and what is under way, is left out
abbrev pub base_of : CoreContents → Base
base_of h = record { clock = h.clock; next = h.next; policy = h.policy; tables = map base_table_of h.tables }

-- a new core, to whoever reads it: no time has passed, there is no table, and of users there is root; no tablet and no job was numbered
pub record IsNewStore (h : CoreContents) : Type 0 where
  pub base : IsNewCore (base_of h)
  pub tablet : h.tablet ≡ 0
  pub job : h.job ≡ 0

-- ---- tables and tablets
-- the table of this name
abbrev pub table_in : CoreContents → List ℕ → Option TableContents
table_in h q = find (λ (t : TableContents). bytes_eq t.name q) h.tables

-- its tablets, none if there is no table
abbrev pub tablets_found : Option TableContents → List Tablet
tablets_found None = []
tablets_found (Some t) = t.tablets

abbrev pub tablets_in : CoreContents → List ℕ → List Tablet
tablets_in h q = tablets_found (table_in h q)

-- ---- what is told of tablets
-- a count, as a reply tells it: the greatest u64 for any above it
abbrev pub told_count : ℕ → ℕ
told_count n = min n 18446744073709551615

-- how many tablets there are, how many runs and sorted tables they have, and how many records they hold
abbrev pub counts_of : List Tablet → Counts
counts_of ts = record { tablets = told_count (length ts); sources = told_count (sum (map (λ (t : Tablet). count_of t.sources) ts)); records = told_count (length (records_of_all ts)) }
