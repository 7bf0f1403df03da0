-- To be believed by whoever relies on it. Merges: what one reads, and what it makes. (Accumulo user manual: minor and major compactions)
use Rattle.std.specs.Prelude.{ℕ, ℤ, List, [], ◌∷◌, Bool, false, ◌&&◌, ◌==◌, nat_lt, cond, Option, Some, None, map, take}
use Rattle.std.specs.Ordering.{int_eq}
use Rattle.tab_key.specs.Records.{Record}
use Rattle.tab_cells.specs.declared.compaction.Compaction.{Compaction}
use Rattle.tab_cells.specs.declared.compaction.Compaction.TheVariants.{Minor, Partial, Full}
use Rattle.tab_cells.specs.Compactions.{is_full}
use Rattle.tab_cells.specs.Merged.{merged}
use Rattle.tab_iter.specs.Bags.{flat}
use Rattle.tab_version.specs.Sources.{Sorted, Sources, records_of, count_of, same_sources}
use Rattle.tab_compact.specs.Plans.{plan}

-- a merge of these sources of the tablet with this number, with the floor and the versions of their table when it began; it has a number
-- of its own
pub record Merge : Type 0 where
  pub tablet : ℕ
  pub number : ℕ
  pub kind : Compaction
  pub inputs : Sources
  pub floor : ℤ
  pub versions : ℕ

-- the records that are held of some tables, table by table
abbrev pub held : List Sorted → List Record
held ts = flat (map (λ (t : Sorted). t.records) ts)

-- what it makes
abbrev pub output : Merge → List Record
output m = merged (records_of m.inputs) (is_full m.kind) m.floor m.versions

-- whether the merge is this one, if there is one: with inputs of equal contents in the same order, the same floor and as many versions
abbrev pub is_under_way : Merge → Option Merge → Bool
is_under_way m None = false
is_under_way m (Some j) = same_sources m.inputs j.inputs && int_eq m.floor j.floor && m.versions == j.versions

-- ---- what a compaction reads
-- the tables by size; those of equal size stay in their order
abbrev pub put_by_size : Sorted → List Sorted → List Sorted
put_by_size t [] = t ∷ []
put_by_size t (s ∷ ss) = cond (nat_lt s.size t.size) (s ∷ put_by_size t ss) (t ∷ s ∷ ss)

abbrev pub by_size : List Sorted → List Sorted
by_size [] = []
by_size (t ∷ ts) = put_by_size t (by_size ts)

-- the sizes of some tables, in bytes
abbrev pub sizes_of : List Sorted → List ℕ
sizes_of ts = map (λ (t : Sorted). t.size) ts

-- so many of them, or none
abbrev pub taken : Option ℕ → List Sorted → List Sorted
taken None ts = []
taken (Some k) ts = take k ts

-- the runs; the smallest tables that fit; or all sources
abbrev pub inputs_of : Compaction → Sources → Sources
inputs_of Minor s = record { runs = s.runs; tables = [] }
inputs_of Partial s = record { runs = []; tables = taken (plan (sizes_of (by_size s.tables))) (by_size s.tables) }
inputs_of Full s = s

-- the merge with this number that begins on these sources of the tablet, if there is anything to merge
abbrev pub captured : ℕ → ℕ → Compaction → ℤ → ℕ → Sources → Option Merge
captured tablet number kind floor n s = cond (count_of (inputs_of kind s) == 0) None (Some (record { tablet = tablet; number = number; kind = kind; inputs = inputs_of kind s; floor = floor; versions = n }))
