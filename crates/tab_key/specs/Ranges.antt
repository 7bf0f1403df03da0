-- To be believed. Ranges of rows. (Accumulo user manual: range)
use Rattle.std.specs.Prelude.{ℕ, List, Bool, true, false, ◌&&◌}
use Rattle.std.specs.Ordering.{is_lt, is_le, is_gt, is_ge}
use Rattle.tab_key.specs.Bytes.{bytes_cmp}
use Rattle.tab_key.specs.declared.range.Bound.{Bound}
use Rattle.tab_key.specs.declared.range.Bound.TheVariants.{Unbounded, Inclusive, Exclusive}
use Rattle.tab_key.specs.declared.range.Bounds.{Bounds}

-- the row isn't below the low end
abbrev pub is_above : Bound → List ℕ → Bool
is_above Unbounded row = true
is_above (Inclusive low) row = is_le (bytes_cmp low row)
is_above (Exclusive low) row = is_lt (bytes_cmp low row)

-- the row isn't above the high end
abbrev pub is_below : Bound → List ℕ → Bool
is_below Unbounded row = true
is_below (Inclusive high) row = is_le (bytes_cmp row high)
is_below (Exclusive high) row = is_lt (bytes_cmp row high)

-- the row lies between the ends
abbrev pub is_in_range : Bounds → List ℕ → Bool
is_in_range range row = is_above range.low row && is_below range.high row

-- the low row is above the high one, or equal to it with an exclusive end
abbrev pub is_bad_range : Bound → Bound → Bool
is_bad_range (Inclusive a) (Inclusive b) = is_gt (bytes_cmp a b)
is_bad_range (Inclusive a) (Exclusive b) = is_ge (bytes_cmp a b)
is_bad_range (Exclusive a) (Inclusive b) = is_ge (bytes_cmp a b)
is_bad_range (Exclusive a) (Exclusive b) = is_ge (bytes_cmp a b)
is_bad_range Unbounded high = false
is_bad_range (Inclusive a) Unbounded = false
is_bad_range (Exclusive a) Unbounded = false
