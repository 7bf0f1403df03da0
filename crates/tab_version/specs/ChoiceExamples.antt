-- Worked examples, computed: what is left where inputs are taken out of sources.
use Rattle.std.specs.Prelude.{◌≡◌, ℕ, pos, List, [], ◌∷◌, Some, None, codes, refl}
use Rattle.tab_key.specs.Records.{Record}
use Rattle.tab_key.specs.Kept.{same_column}
use Rattle.tab_key.specs.Same.{same_record}
use Rattle.tab_key.specs.declared.key.Kind.TheVariants.{Put}
use Rattle.tab_version.specs.Sources.{Sorted, Sources, same_contents, left_by}

everything : ℕ
unfolding same_column same_record same_contents
everything = 0

-- a run of one put, by the mutation with this number
abbrev run : ℕ → List Record
run seq = record { key = record { row = codes "r"; family = codes "f"; qualifier = codes "q"; label = []; timestamp = pos 1 }; kind = Put; value = codes "v"; seq = seq; idx = 0 } ∷ []

-- a table of that, of this size
abbrev table : ℕ → ℕ → Sorted
table seq size = record { records = run seq; size = size }

abbrev of_runs : List (List Record) → Sources
of_runs runs = record { runs = runs; tables = [] }

abbrev of_tables : List Sorted → Sources
of_tables tables = record { runs = []; tables = tables }

-- of equal runs the first is taken, and the others stay in their order
takes_the_first : left_by (of_runs (run 1 ∷ [])) (of_runs (run 2 ∷ run 1 ∷ run 3 ∷ run 1 ∷ [])) ≡ Some (of_runs (run 2 ∷ run 3 ∷ run 1 ∷ []))
unfolding everything
takes_the_first = refl

-- two equal inputs take two runs, whatever their order
takes_two : left_by (of_runs (run 1 ∷ run 2 ∷ run 1 ∷ [])) (of_runs (run 1 ∷ run 1 ∷ run 3 ∷ run 2 ∷ [])) ≡ Some (of_runs (run 3 ∷ []))
unfolding everything
takes_two = refl

-- one run doesn't serve two inputs
serves_one : left_by (of_runs (run 1 ∷ run 1 ∷ [])) (of_runs (run 1 ∷ run 2 ∷ [])) ≡ None
unfolding everything
serves_one = refl

-- a table isn't taken for a run of the same records
keeps_kinds_apart : left_by (of_runs (run 1 ∷ [])) (of_tables (table 1 9 ∷ [])) ≡ None
unfolding everything
keeps_kinds_apart = refl

-- of tables of the same records one of the same size is taken, and another one where there is none
takes_the_size : left_by (of_tables (table 1 20 ∷ [])) (of_tables (table 1 10 ∷ table 1 20 ∷ [])) ≡ Some (of_tables (table 1 10 ∷ []))
unfolding everything
takes_the_size = refl

takes_another_size : left_by (of_tables (table 1 20 ∷ [])) (of_tables (table 2 20 ∷ table 1 10 ∷ [])) ≡ Some (of_tables (table 2 20 ∷ []))
unfolding everything
takes_another_size = refl
