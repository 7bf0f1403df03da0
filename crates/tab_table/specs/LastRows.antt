-- For proofs. The row at a list's end.
use Rattle.std.specs.Prelude.{ℕ, ◌-◌, List, [], length, map}
use Rattle.std.specs.List.{slice_index_or}
use Rattle.tab_key.specs.Records.{Record}

-- the row of the last record; of none the empty one
unfoldable pub row_at_end : List Record → List ℕ
row_at_end rs = slice_index_or (map (λ u. u.key.row) rs) (length rs - 1) []
