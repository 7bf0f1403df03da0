-- For proofs. What a scan of all rows shows.
use Rattle.std.specs.Prelude.{ℕ, List, filter}
use Rattle.tab_key.specs.Records.{Record}
use Rattle.tab_key.specs.Sorted.{sorted}
use Rattle.tab_key.specs.declared.column.Column.{Column}
use Rattle.tab_cells.specs.Cells.{is_shown}
use Rattle.tab_iter.specs.Stack.{query_of}

-- the records that it shows of these, in their order: of these columns, under these authorizations, so many versions of each column
abbrev pub shown : List Record → ℕ → List Column → List (List ℕ) → List Record
shown us versions columns auths = sorted (filter (is_shown us versions (query_of columns auths)) us)
