-- The middle row of records, by counts.
use Rattle.std.proofs.Common.{◌≡◌, ℕ, ◌-◌, ◌/◌, ◌<◌, ◌≤◌, List, Some, None, sym, ◌∙◌, ap, length, arith}
use Rattle.std.specs.Prelude.{filter, slice_get}
use Rattle.std.specs.Ordering.{is_lt, is_le}
use Rattle.tab_key.specs.Bytes.{bytes_cmp}
use Rattle.tab_key.specs.Records.{Record}
use Rattle.tab_key.specs.Sorted.{IsDistinct}
use Rattle.tab_tablet.specs.Splitting.{last_row, middle_row}
use Rattle.tab_tablet.specs.Selecting.{rows_of, count_below, count_upto}
use Rattle.tab_tablet.proofs.Rows.{no_middle, no_last, last_below, middle_is, next_lower}
use Rattle.tab_tablet.proofs.Selected.{rows_upward, rows_count, rows_length}

module _ (us : List Record) (d : IsDistinct us) where
  pub none_held : length us ≡ 0 → None ≡ middle_row (rows_of us)
  none_held e = sym (no_middle (rows_of us) (rows_length us ∙ e))

  module _ (m : List ℕ) (mid : slice_get (rows_of us) (length us / 2) ≡ Some m) where
    at_half : slice_get (rows_of us) (length (rows_of us) / 2) ≡ Some m
    at_half = ap (λ n. slice_get (rows_of us) (n / 2)) (rows_length us) ∙ mid

    pub middle_found : count_upto m us < length us → Some m ≡ middle_row (rows_of us)
    middle_found lt = sym (middle_is (rows_of us) (rows_upward us d) m at_half (omega (arith, lt, rows_length us, rows_count (λ s. is_le (bytes_cmp s m)) us)))

    pub middle_greatest : length us ≤ count_upto m us → last_row (filter (λ r. is_lt (bytes_cmp r m)) (rows_of us)) ≡ middle_row (rows_of us)
    middle_greatest le = sym (next_lower (rows_of us) (rows_upward us d) m at_half (omega (arith, le, rows_length us, rows_count (λ s. is_le (bytes_cmp s m)) us)))

  module _ (r : List ℕ) where
    pub none_lower : count_below r us ≡ 0 → None ≡ last_row (filter (λ s. is_lt (bytes_cmp s r)) (rows_of us))
    none_lower e = sym (no_last (filter (λ s. is_lt (bytes_cmp s r)) (rows_of us)) (rows_count (λ s. is_lt (bytes_cmp s r)) us ∙ e))

    pub lower_found : (x : List ℕ) → 0 < count_below r us → slice_get (rows_of us) (count_below r us - 1) ≡ Some x → Some x ≡ last_row (filter (λ s. is_lt (bytes_cmp s r)) (rows_of us))
    lower_found x some at = sym (last_below r (rows_of us) (count_below r us - 1) (rows_upward us d) (omega (arith, some, rows_count (λ s. is_lt (bytes_cmp s r)) us)) ∙ at)
