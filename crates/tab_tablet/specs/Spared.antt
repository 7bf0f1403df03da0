-- For proofs. What a whole compaction leaves of a tablet's sources, said without comparing contents.
use Rattle.std.specs.Prelude.{◌≡◌, ℕ, List, [], not, nat_le, Option, Some, None, filter, take}
use Rattle.tab_cells.specs.declared.compaction.Compaction.{Compaction}
use Rattle.tab_cells.specs.declared.compaction.Compaction.TheVariants.{Minor, Partial, Full}
use Rattle.tab_version.specs.Sources.{Sorted, Sources, no_sources, left_by, with_table}
use Rattle.tab_compact.specs.Plans.{largest, plan}
use Rattle.tab_compact.specs.Merges.{Merge, output, by_size, sizes_of, inputs_of}
use Rattle.tab_tablet.specs.Tablets.{Jobs, with_job}

-- how many of the tables a partial compaction takes, if it takes any
abbrev pub plan_of : List Sorted → Option ℕ
plan_of ts = plan (sizes_of (by_size ts))

-- the size of the largest of the k smallest tables
abbrev pub limit_of : ℕ → List Sorted → ℕ
limit_of k ts = largest (take k (sizes_of (by_size ts)))

-- where k of the tables are taken: those that are larger, in their order
abbrev pub larger_than : Option ℕ → List Sorted → List Sorted
larger_than None ts = ts
larger_than (Some k) ts = filter (λ (t : Sorted). not (nat_le t.size (limit_of k ts))) ts

-- a minor compaction leaves the tables; a partial one the runs, and the tables that are larger than all that it takes; a full one nothing
abbrev pub spared : Compaction → Sources → Sources
spared Minor s = record { runs = []; tables = s.tables }
spared Partial s = record { runs = s.runs; tables = larger_than (plan_of s.tables) s.tables }
spared Full s = no_sources

-- the law: that is what its inputs leave
abbrev pub InputsLeave : Type 0
InputsLeave = (kind : Compaction) (s : Sources) → left_by (inputs_of kind s) s ≡ Some (spared kind s)

-- ---- The same of a whole compaction.
-- the sources after a compaction of this kind that makes this merge of them, if there is anything to merge
abbrev pub sources_after : Compaction → Option Merge → Sources → Sources
sources_after kind None s = s
sources_after kind (Some m) s = with_table (output m) (spared kind s)

-- the merges under way after one of this kind: the one of the kind is gone, if there was anything to merge
abbrev pub jobs_after : Compaction → Option Merge → Jobs → Jobs
jobs_after kind None j = j
jobs_after kind (Some m) j = with_job kind None j
