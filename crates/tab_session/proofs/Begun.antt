-- The order in which ranges are read.
use Rattle.std.proofs.Common.{ℕ}
use Rattle.std.specs.Cmp.{IsStrictWeakOrder}
use Rattle.std.specs.Cmp.Lexicographic.{nat_list_cmp_total}
use Rattle.std.proofs.lemmas.List.Sorted.{ranks_by}
use Rattle.tab_key.specs.declared.range.Bounds.{Bounds}
use Rattle.tab_session.specs.LowEnds.{low_row, begins_before}

-- it is an order as a sort wants it
pub begun_order : IsStrictWeakOrder begins_before
begun_order = ranks_by nat_list_cmp_total (λ (p : ℕ × Bounds). low_row p.1.low)
