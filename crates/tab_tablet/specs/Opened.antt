-- For proofs. What an opened scan reads.
use Rattle.std.specs.Prelude.{◌≡◌, ℕ, List}
use Rattle.tab_key.specs.Records.{Record}
use Rattle.tab_key.specs.declared.column.Column.{Column}
use Rattle.tab_key.specs.declared.range.Bounds.{Bounds}
use Rattle.tab_cells.specs.Cells.{cells}
use Rattle.tab_iter.specs.Stack.{query_of}

-- whatever is asked, a scan of all rows of these records shows what a scan of the rows in bounds shows of those
abbrev pub ShowsRowsOf : Bounds → List Record → List Record → Type 0
ShowsRowsOf bounds those these = (n : ℕ) (columns : List Column) (auths : List (List ℕ)) → cells these n (query_of columns auths) ≡ cells those n (record { bounds = bounds; columns = columns; authorizations = auths })
