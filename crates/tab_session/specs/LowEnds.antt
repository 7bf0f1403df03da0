-- Where the rows of a range begin.
use Rattle.std.specs.Prelude.{ℕ, Bool, List, [], ◌∷◌, ◌++◌}
use Rattle.std.specs.Ordering.{is_lt}
use Rattle.tab_key.specs.Bytes.{bytes_cmp}
use Rattle.tab_key.specs.Records.{Record}
use Rattle.tab_key.specs.declared.range.Bounds.{Bounds}
use Rattle.tab_key.specs.declared.range.Bound.{Bound}
use Rattle.tab_key.specs.declared.range.Bound.TheVariants.{Unbounded, Inclusive, Exclusive}
use Rattle.tab_iter.specs.Lists.{from_key}
use Rattle.tab_iter.specs.NamedColumns.{row_start}

-- the row at a low end, and the lowest of all where there is none
abbrev pub low_row : Bound → List ℕ
low_row Unbounded = []
low_row (Inclusive row) = row
low_row (Exclusive row) = row

-- whether a range, beside its place, begins at a lower row than another one
abbrev pub begins_before : ℕ × Bounds → ℕ × Bounds → Bool
begins_before p q = is_lt (bytes_cmp (low_row p.1.low) (low_row q.1.low))

-- for proofs: from the first key that a row at this low end can have
abbrev pub from_low : Bound → List Record → List Record
from_low Unbounded w = w
from_low (Inclusive row) w = from_key (row_start row) w
from_low (Exclusive row) w = from_key (row_start (row ++ 0 ∷ [])) w
