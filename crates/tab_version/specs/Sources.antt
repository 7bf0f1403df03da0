-- To be believed by whoever relies on it. What a tablet reads beside its active part: frozen runs and sorted tables, each cut to the tablet's rows.
use Rattle.std.specs.Prelude.{ℕ, List, [], ◌∷◌, ◌++◌, ◌+◌, Bool, true, false, ◌&&◌, ◌==◌, cond, Option, Some, None, option_map, option_and_then, length, filter, map, sum}
use Rattle.tab_key.specs.Records.{Record}
pub use Rattle.tab_key.specs.Same.{same_record}
use Rattle.tab_iter.specs.Bags.{flat}
use Rattle.tab_table.specs.Sizes.{encoded_size}

-- a sorted table: the records that are held of it, and the size of the whole table, in bytes
pub record Sorted : Type 0 where
  pub records : List Record
  pub size : ℕ

-- runs and sorted tables, each in the order in which they came
pub record Sources : Type 0 where
  pub runs : List (List Record)
  pub tables : List Sorted

-- no source
abbrev pub no_sources : Sources
no_sources = record { runs = []; tables = [] }

-- all records that are held of them, source by source
abbrev pub records_of : Sources → List Record
records_of s = flat s.runs ++ flat (map (λ (t : Sorted). t.records) s.tables)

-- how many sources there are
abbrev pub count_of : Sources → ℕ
count_of s = length s.runs + length s.tables

-- the sizes of the tables together
abbrev pub size_of : Sources → ℕ
size_of s = sum (map (λ (t : Sorted). t.size) s.tables)

-- a sorted table built of these records
abbrev pub built : List Record → Sorted
built rs = record { records = rs; size = encoded_size rs }

-- the sources with one more table, which comes last
abbrev pub with_table : List Record → Sources → Sources
with_table rs s = record s { tables = s.tables ++ built rs ∷ [] }

-- the same sources, cut to the rows that pass: none is dropped, and a table keeps its whole size
abbrev pub clipped : (List ℕ → Bool) → Sources → Sources
clipped p s = record { runs = map (filter (λ (u : Record). p u.key.row)) s.runs; tables = map (λ (t : Sorted). record t { records = filter (λ (u : Record). p u.key.row) t.records }) s.tables }

-- ---- equal contents
-- lists whose members pair up, in order
abbrev pub same_lists : {X : Type 0} → (X → X → Bool) → List X → List X → Bool
same_lists same [] [] = true
same_lists same [] (y ∷ ys) = false
same_lists same (x ∷ xs) [] = false
same_lists same (x ∷ xs) (y ∷ ys) = same x y && same_lists same xs ys

-- the same records, in order
unfoldable pub same_contents : List Record → List Record → Bool
same_contents xs ys = same_lists same_record xs ys

-- two sorted tables of which the same records are held
abbrev pub same_table : Sorted → Sorted → Bool
same_table a b = same_contents a.records b.records

-- sources that pair up in order by their contents, a run with a run and a table with a table
abbrev pub same_sources : Sources → Sources → Bool
same_sources a b = same_lists same_contents a.runs b.runs && same_lists same_table a.tables b.tables

-- ---- taking sources out
-- the list without its first member that passes, if there is one
abbrev pub without : {X : Type 0} → (X → Bool) → List X → Option (List X)
without p [] = None
without p (x ∷ xs) = cond (p x) (Some xs) (option_map (λ ys. x ∷ ys) (without p xs))

-- the first of two lists that there is
abbrev pub or_else : {X : Type 0} → Option X → Option X → Option X
or_else (Some x) other = Some x
or_else None other = other

-- the runs without one of equal contents for each of the inputs
abbrev pub without_runs : List (List Record) → List (List Record) → Option (List (List Record))
without_runs [] runs = Some runs
without_runs (x ∷ xs) runs = option_and_then (without_runs xs) (without (same_contents x) runs)

-- the tables without one of equal contents for each of the inputs, where there is the choice one of equal size
abbrev pub without_tables : List Sorted → List Sorted → Option (List Sorted)
without_tables [] tables = Some tables
without_tables (x ∷ xs) tables = option_and_then (without_tables xs) (or_else (without (λ y. same_table x y && x.size == y.size) tables) (without (same_table x) tables))

-- Where each of the inputs has a source of its own with equal contents, a run a run and a table a table: the other sources, in their
-- order.
abbrev pub left_by : Sources → Sources → Option Sources
left_by inputs s = option_and_then (λ runs. option_map (λ tables. record { runs = runs; tables = tables }) (without_tables inputs.tables s.tables)) (without_runs inputs.runs s.runs)
