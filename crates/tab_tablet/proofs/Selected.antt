-- The rows of records in order, counted and cut without ordering them.
use Rattle.std.proofs.Common.{◌≡◌, ℕ, ◌+◌, ◌-◌, ◌<◌, ◌≤◌, List, [], ◌∷◌, Bool, true, false, cond, not, Some, refl, sym, ◌∙◌, ap, length, map, arith}
use Rattle.std.specs.Prelude.{filter, slice_get}
use Rattle.std.specs.List.{AllByRecursion}
use Rattle.std.specs.List.Sorted.{IsStrictlySortedBy}
use Rattle.std.specs.Ordering.{is_lt, is_le, is_gt}
use Rattle.std.specs.declared.cmp.Ordering.{Ordering}
use Rattle.std.specs.declared.cmp.Ordering.TheVariants.{Less, Equal, Greater}
use Rattle.std.proofs.lemmas.List.{length-map}
use Rattle.std.proofs.lemmas.List.Filters.{length-filter_both}
use Rattle.tab_key.specs.Bytes.{bytes_cmp}
use Rattle.tab_key.specs.Order.{record_cmp}
use Rattle.tab_key.specs.Records.{Record}
use Rattle.tab_key.specs.Sorted.{sorted, IsDistinct}
use Rattle.tab_key.proofs.Rising.{rising_sorted, distinct_filter}
use Rattle.tab_iter.proofs.BagLaws.{sorted_filter, length_sorted}
use Rattle.tab_mem.proofs.RowOrder.{IsUpto, rows_rise, below_less}
use Rattle.tab_key.specs.declared.range.Bound.TheVariants.{Inclusive, Exclusive}
use Rattle.tab_tablet.specs.Selecting.{rows_of, count_below, count_upto, HasRow, IsNarrower}
use Rattle.tab_tablet.proofs.Rows.{IsUpward, in_front, behind, at_place}

abbrev row_in : Record → List ℕ
row_in u = u.key.row

-- ---- rows and their records
pub all_pass : (us : List Record) → filter (λ u. true) us ≡ us
all_pass [] = refl
all_pass (u ∷ us) = ap (λ l. u ∷ l) (all_pass us)

filter_rows : (p : List ℕ → Bool) (us : List Record) → filter p (map row_in us) ≡ map row_in (filter (λ u. p u.key.row) us)
filter_rows p [] = refl
filter_rows p (u ∷ us) = go (p u.key.row) (filter_rows p us)
  where
    go : (v : Bool) → filter p (map row_in us) ≡ map row_in (filter (λ x. p x.key.row) us) → cond v (u.key.row ∷ filter p (map row_in us)) (filter p (map row_in us)) ≡ map row_in (cond v (u ∷ filter (λ x. p x.key.row) us) (filter (λ x. p x.key.row) us))
    go true ih = ap (λ l. u.key.row ∷ l) ih
    go false ih = ih

each_upto : (x : Record) (us : List Record) → AllByRecursion (λ y. record_cmp x y ≡ Less) us → AllByRecursion (IsUpto x.key.row) (map row_in us)
each_upto x [] a = tt
each_upto x (u ∷ us) a = (rows_rise x u a.0, each_upto x us a.1)

rising_upward : (us : List Record) → IsStrictlySortedBy record_cmp us → IsUpward (map row_in us)
unfolding IsStrictlySortedBy
rising_upward [] r = tt
rising_upward (u ∷ us) r = (each_upto u us r.0, rising_upward us r.1)

pub rows_upward : (us : List Record) → IsDistinct us → IsUpward (rows_of us)
rows_upward us d = rising_upward (sorted us) (rising_sorted us d)

rows_filter : (p : List ℕ → Bool) (us : List Record) → IsDistinct us → filter p (rows_of us) ≡ rows_of (filter (λ u. p u.key.row) us)
rows_filter p us d = filter_rows p (sorted us) ∙ ap (map row_in) (sym (sorted_filter (λ u. p u.key.row) us d))

pub rows_count : (p : List ℕ → Bool) (us : List Record) → length (filter p (rows_of us)) ≡ length (filter (λ u. p u.key.row) us)
rows_count p us = ap length (filter_rows p (sorted us)) ∙ length-map (filter (λ u. p u.key.row) (sorted us)) row_in ∙ length_sorted (λ u. p u.key.row) us

pub rows_length : (us : List Record) → length (rows_of us) ≡ length us
rows_length us = length-map (sorted us) row_in ∙ sym (ap length (all_pass (sorted us))) ∙ length_sorted (λ u. true) us ∙ ap length (all_pass us)

-- ---- a selection
above_is : (o : Ordering) → not (is_le o) ≡ is_gt o
above_is Less = refl
above_is Equal = refl
above_is Greater = refl

above_rows : (r : List ℕ) (us : List (List ℕ)) → filter (λ s. not (is_le (bytes_cmp s r))) us ≡ filter (λ s. is_gt (bytes_cmp s r)) us
above_rows r us = λ i. filter (λ s. above_is (bytes_cmp s r) i) us

module _ (us : List Record) (d : IsDistinct us) (r : List ℕ) (n : ℕ) where
  -- the row itself, where its place lies between the counts
  pub selected : count_below r us ≤ n → n < count_upto r us → slice_get (rows_of us) n ≡ Some r
  selected lo hi = at_place r (rows_of us) n (rows_upward us d) (omega (arith, lo, rows_count (λ s. is_lt (bytes_cmp s r)) us)) (omega (arith, hi, rows_count (λ s. is_le (bytes_cmp s r)) us))

  -- else the same place among those below it, or a lower place among those above it
  pub among_lower : n < count_below r us → slice_get (rows_of (filter (λ u. is_lt (bytes_cmp u.key.row r)) us)) n ≡ slice_get (rows_of us) n
  among_lower lt =
      ap (λ l. slice_get l n) (sym (rows_filter (λ s. is_lt (bytes_cmp s r)) us d))
      ∙ sym (in_front (λ s. is_lt (bytes_cmp s r)) (λ a b u e. below_less (Exclusive r) a b u e) (rows_of us) n (rows_upward us d) (omega (arith, lt, rows_count (λ s. is_lt (bytes_cmp s r)) us)))

  pub among_upper : count_upto r us ≤ n → slice_get (rows_of (filter (λ u. is_gt (bytes_cmp u.key.row r)) us)) (n - count_upto r us) ≡ slice_get (rows_of us) n
  among_upper le =
      ap (λ l. slice_get l (n - count_upto r us)) (sym (rows_filter (λ s. is_gt (bytes_cmp s r)) us d) ∙ sym (above_rows r (rows_of us)))
      ∙ sym (behind (λ s. is_le (bytes_cmp s r)) (λ a b u e. below_less (Inclusive r) a b u e) (rows_of us) n (n - count_upto r us) (rows_upward us d) (omega (arith, le, rows_count (λ s. is_le (bytes_cmp s r)) us)))

  counts : count_upto r us + length (filter (λ u. is_gt (bytes_cmp u.key.row r)) us) ≡ length us
  counts = length-filter_both (λ u. is_le (bytes_cmp u.key.row r)) (λ u. is_gt (bytes_cmp u.key.row r)) (λ u. sym (above_is (bytes_cmp u.key.row r))) us

  pub narrower_below : HasRow us r → n < count_below r us → IsNarrower us n (filter (λ u. is_lt (bytes_cmp u.key.row r)) us) n
  narrower_below held lt = record {
    same = among_lower lt;
    inside = lt;
    fewer = omega (arith, held, counts);
    distinct = distinct_filter (λ u. is_lt (bytes_cmp u.key.row r)) us d;
  }

  pub narrower_above : HasRow us r → n < length us → count_upto r us ≤ n → IsNarrower us n (filter (λ u. is_gt (bytes_cmp u.key.row r)) us) (n - count_upto r us)
  narrower_above held lt le = record {
    same = among_upper le;
    inside = omega (arith, lt, le, counts);
    fewer = omega (arith, held, counts);
    distinct = distinct_filter (λ u. is_gt (bytes_cmp u.key.row r)) us d;
  }
