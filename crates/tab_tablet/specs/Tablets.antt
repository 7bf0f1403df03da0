-- To be believed by whoever relies on it. Tablets, and what writes, freezes and compactions do to one. (Accumulo user manual: tablets, minor and major compactions)
use Rattle.std.specs.Prelude.{ℕ, ℤ, List, [], ◌∷◌, ◌++◌, ◌+◌, ◌==◌, Bool, true, cond, min, Option, Some, None}
use Rattle.std.specs.Ordering.{is_le}
use Rattle.tab_key.specs.Bytes.{bytes_cmp}
use Rattle.tab_key.specs.Records.{Record}
use Rattle.tab_key.specs.Sorted.{sorted}
use Rattle.tab_cells.specs.declared.compaction.Compaction.{Compaction}
use Rattle.tab_cells.specs.declared.compaction.Compaction.TheVariants.{Minor, Partial, Full}
use Rattle.tab_version.specs.Sources.{Sources, Sorted, no_sources, built, records_of, count_of, left_by, with_table}
use Rattle.tab_compact.specs.Merges.{Merge, output, captured, is_under_way}
use Rattle.tab_tablet.specs.declared.installed.Installed.{Installed}
use Rattle.tab_tablet.specs.declared.installed.Installed.TheVariants.{Done, Stale}

-- the merge under way of each kind, if there is one
pub record Jobs : Type 0 where
  pub minor : Option Merge
  pub partly : Option Merge
  pub full : Option Merge

-- none
abbrev pub no_jobs : Jobs
no_jobs = record { minor = None; partly = None; full = None }

-- the one of this kind
abbrev pub job_of : Compaction → Jobs → Option Merge
job_of Minor j = j.minor
job_of Partial j = j.partly
job_of Full j = j.full

-- this one in its place, or none
abbrev pub with_job : Compaction → Option Merge → Jobs → Jobs
with_job Minor o j = record j { minor = o }
with_job Partial o j = record j { partly = o }
with_job Full o j = record j { full = o }

-- A tablet: its number; the last row that it may hold, none for the last tablet of a table; what was written since it was last frozen;
-- its sources; and the merges under way.
pub record Tablet : Type 0 where
  pub number : ℕ
  pub end : Option (List ℕ)
  pub active : List Record
  pub sources : Sources
  pub jobs : Jobs

-- the next number; the greatest one of eight bytes stays
abbrev pub next_number : ℕ → ℕ
next_number n = min (n + 1) 18446744073709551615

-- whether a row is at or before an end row
abbrev pub is_up_to : Option (List ℕ) → List ℕ → Bool
is_up_to None row = true
is_up_to (Some end) row = is_le (bytes_cmp row end)

-- a tablet that holds nothing
abbrev pub new_tablet : ℕ → Option (List ℕ) → Tablet
new_tablet number end = record { number = number; end = end; active = []; sources = no_sources; jobs = no_jobs }

-- all records that it holds
abbrev pub records_in : Tablet → List Record
records_in t = t.active ++ records_of t.sources

-- with these records written to it
abbrev pub written : List Record → Tablet → Tablet
written us t = record t { active = t.active ++ us }

-- ---- freezing
-- the active records as a run, if there are any
abbrev pub run_of : List Record → List (List Record)
run_of [] = []
run_of (u ∷ us) = sorted (u ∷ us) ∷ []

-- the active records frozen into a run, which comes last
abbrev pub frozen : Tablet → Tablet
frozen t = record t { active = []; sources = record (t.sources) { runs = t.sources.runs ++ run_of t.active } }

-- ---- restoring
-- these records as one sorted table, if there are any
abbrev pub table_of : List Record → List Sorted
table_of [] = []
table_of (u ∷ us) = built (u ∷ us) ∷ []

-- a tablet that holds these records as one sorted table, or has no source where there are none
abbrev pub tabled : ℕ → Option (List ℕ) → List Record → Tablet
tabled number end us = record { number = number; end = end; active = []; sources = record { runs = []; tables = table_of us }; jobs = no_jobs }

-- ---- compactions
-- the merge with this number that a compaction of this kind makes of a tablet's sources, if there is anything to merge; it reads the
-- tablet as it is frozen
abbrev pub capture : ℕ → Compaction → ℤ → ℕ → Tablet → Option Merge
capture number kind floor n t = captured t.number number kind floor n (frozen t).sources

-- what a merge makes takes the place of its inputs, and comes last; no merge of its kind is under way any more
abbrev pub replaced : Merge → Sources → Tablet → Tablet
replaced m left t = record t { sources = with_table (output m) left; jobs = with_job m.kind None t.jobs }

-- the same, if all inputs are there
abbrev pub replaced_in : Merge → Option Sources → Tablet → Tablet
replaced_in m None t = t
replaced_in m (Some left) t = replaced m left t

-- merged, if there is anything to merge
abbrev pub merged_by : Option Merge → Tablet → Tablet
merged_by None t = t
merged_by (Some m) t = replaced_in m (left_by m.inputs t.sources) t

-- a whole compaction: the tablet is frozen, and what the merge makes takes the place of its inputs; as nobody is handed this merge, its
-- number is 0
abbrev pub compacted : Compaction → ℤ → ℕ → Tablet → Tablet
compacted kind floor n t = merged_by (capture 0 kind floor n t) (frozen t)

-- ---- compactions in parts
-- the merge in the place of the one of its kind, if there is one to begin
abbrev pub registered : Option Merge → Jobs → Jobs
registered None j = j
registered (Some m) j = with_job m.kind (Some m) j

-- the merge is under way, if there is one to begin
abbrev pub begun : Option Merge → Tablet → Tablet
begun o t = record t { jobs = registered o t.jobs }

-- the first part: the tablet is frozen, and its merge is under way
abbrev pub begins : ℕ → Compaction → ℤ → ℕ → Tablet → Tablet
begins number kind floor n t = begun (capture number kind floor n t) (frozen t)

-- the sources beside a merge's inputs, where it is the one of its kind that is under way, and each input has a source of its own
abbrev pub fitting : Merge → Tablet → Option Sources
fitting m t = cond (is_under_way m (job_of m.kind t.jobs)) (left_by m.inputs t.sources) None

-- how many sources there are; the greatest number of eight bytes for any number above it
abbrev pub sources_told : Tablet → ℕ
sources_told t = min (count_of t.sources) 18446744073709551615

-- the last part, by these other sources: done, or stale where there are none; no merge of its kind is under way any more
abbrev pub installs : Merge → Option Sources → Tablet → Installed × Tablet
installs m None t = (Stale (sources_told t), record t { jobs = with_job m.kind None t.jobs })
installs m (Some left) t = (Done, replaced m left t)

-- where it was begun in this tablet; a merge of another tablet is stale, and changes nothing
abbrev pub installed : Merge → Tablet → Installed × Tablet
installed m t = cond (t.number == m.tablet) (installs m (fitting m t) t) (Stale (sources_told t), t)
