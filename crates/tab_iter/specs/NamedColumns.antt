-- For proofs. Where the columns that a scan names begin in a row.
use Rattle.std.specs.Prelude.{◌≡◌, ℕ, Option, Some, None, List, [], ◌∷◌, ◌++◌, false, Contains}
use Rattle.std.specs.Borrow.{Bor}
use Rattle.std.specs.Ordering.{is_lt}
use Rattle.std.specs.declared.cmp.Ordering.TheVariants.{Less}
use Rattle.tab_key.specs.Order.{column_cmp}
use Rattle.tab_key.specs.Records.{Key}
use Rattle.tab_key.specs.declared.column.Column.{Column}
use Rattle.tab_key.specs.declared.column.Column.TheVariants.{Family, Qualified}
use Rattle.tab_iter.specs.Lists.{latest}

-- the first key of the column in the row
abbrev pub start_in : List ℕ → Column → Key
start_in row (Family f) = record { row = row; family = f; qualifier = []; label = []; timestamp = latest }
start_in row (Qualified f q) = record { row = row; family = f; qualifier = q; label = []; timestamp = latest }

-- the first key of the row
abbrev pub row_start : List ℕ → Key
row_start row = record { row = row; family = []; qualifier = []; label = []; timestamp = latest }

-- the first key of the column in the row, or of the row where there is no column
abbrev pub start_of : List ℕ → Option (Bor Column) → Key
start_of row None = row_start row
start_of row (Some c) = start_in row c.now

-- the first key of the column in the row, or of the row that comes next, whatever rows there are
abbrev pub start_past : List ℕ → Option (Bor Column) → Key
start_past row None = row_start (row ++ 0 ∷ [])
start_past row (Some c) = start_in row c.now

-- the column that begins first of those that begin after the key in its row, if there are any
pub record IsFirstAfter (columns : List Column) (key : Key) (found : Option (Bor Column)) : Type 0 where
  pub ahead : column_cmp key (start_past key.row found) ≡ Less
  pub first : (t : Column) → Contains columns t → column_cmp key (start_in key.row t) ≡ Less → is_lt (column_cmp (start_in key.row t) (start_past key.row found)) ≡ false
