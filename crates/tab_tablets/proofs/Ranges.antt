-- Which tablets a range of rows meets, and what a scan of it reads of them.
use Rattle.std.proofs.Common.{◌≡◌, ◌⊎◌, inl, inr, ℕ, zero, suc, ◌+◌, ◌≤◌, ◌<◌, List, [], ◌∷◌, ◌++◌, Bool, true, false, ◌&&◌, refl, sym, ◌∙◌, ap, subst, length, take, drop, arith, append-nil}
use Rattle.std.specs.Prelude.{None, map, filter, slice_range}
use Rattle.std.specs.List.Sorted.{IsPermutation}
use Rattle.std.specs.Ordering.{is_lt, is_le}
use Rattle.std.specs.declared.cmp.Ordering.{Ordering}
use Rattle.std.specs.declared.cmp.Ordering.TheVariants.{Less, Equal, Greater}
use Rattle.std.proofs.lemmas.List.{map-append}
use Rattle.std.proofs.lemmas.List.Edits.{split_between, between_more, between_none}
use Rattle.std.proofs.lemmas.List.Elements.{filter-append}
use Rattle.std.proofs.lemmas.List.Kept.{IsStrictlySortedBy-filter}
use Rattle.std.proofs.lemmas.List.Sorted.{IsPermutation-refl, IsPermutation-sym, IsPermutation-trans, IsPermutation-append, Contains-permutation}
use mathlib.Core.Bool.{true≢false}
use Rattle.tab_key.specs.Bytes.{bytes_cmp}
use Rattle.tab_key.specs.Order.{record_cmp}
use Rattle.tab_key.specs.Ranges.{is_above, is_below, is_in_range}
use Rattle.tab_key.specs.Records.{Record}
use Rattle.tab_key.specs.Sorted.{sorted, IsDistinct}
use Rattle.tab_key.specs.declared.range.Bound.TheVariants.{Inclusive, Exclusive}
use Rattle.tab_key.specs.declared.range.Bounds.{Bounds}
use Rattle.tab_key.proofs.Rising.{in_from, in_to, in_sorted, sorted_in, rising_sorted, same_rising}
use Rattle.tab_key.proofs.Sorting.{distinct_permuted}
use Rattle.tab_cells.specs.Cells.{cells}
use Rattle.tab_cells.proofs.Lists.{by_bool, and_false}
use Rattle.tab_cells.proofs.Rising.{rising_distinct}
use Rattle.tab_iter.specs.Bags.{flat}
use Rattle.tab_iter.specs.Lists.{IsRising}
use Rattle.tab_iter.specs.Stack.{query_of}
use Rattle.tab_iter.proofs.BagLaws.{sorted_filter}
use Rattle.tab_iter.proofs.ColumnLaws.{filter_none}
use Rattle.tab_version.specs.Sources.{Sources, records_of}
use Rattle.tab_version.proofs.InOrder.{all_distinct, all_sorted, cells_sorted}
use Rattle.tab_tablet.specs.Opened.{ShowsRowsOf}
use Rattle.tab_tablet.specs.Tablets.{Tablet, new_tablet, records_in, frozen}
use Rattle.tab_tablet.proofs.Compacted.{frozen_in, frozen_sorted, frozen_distinct_in}
use Rattle.tab_tablet.proofs.Gathered.{permuted_sorted}
use Rattle.tab_tablet.proofs.Moved.{flat_append, frozen_permuted, distinct_left, distinct_right}
use Rattle.tab_tablet.proofs.Shown.{cells_open}
use Rattle.tab_tablets.specs.ByRow.{records_of_all, LieApart}
use Rattle.tab_tablets.specs.Places.{tablet_at, IsPlaceOf, HoldOwnRows, part_in}
use Rattle.tab_tablets.proofs.Orders.{UpTo}
use Rattle.tab_tablets.proofs.EndRows.{lower_up}
use Rattle.tab_tablets.proofs.Rows.{own_place}

-- ---- the ends of a range
lt_up_to : (a b : List ℕ) → is_lt (bytes_cmp a b) ≡ true → UpTo a b
lt_up_to a b e = go (bytes_cmp a b) e
  where
    go : (o : Ordering) → is_lt o ≡ true → is_le o ≡ true
    go Less s = refl
    go Equal s = absurd (true≢false (sym s))
    go Greater s = absurd (true≢false (sym s))

-- the tablets before that of the low row hold nothing above it
not_below : (ts : List Tablet) (low row : List ℕ) (p k : ℕ) → IsPlaceOf low ts p → k < p → IsPlaceOf row ts k → UpTo low row → true ≡ false
not_below ts low row p k q lt r up = sym (lower_up (tablet_at ts k).end low row up r.holds) ∙ q.first k lt

pub none_above : (ts : List Tablet) (low row : List ℕ) (p k : ℕ) → IsPlaceOf low ts p → k < p → IsPlaceOf row ts k → (is_above (Inclusive low) row ≡ false) × (is_above (Exclusive low) row ≡ false)
none_above ts low row p k q lt r = (
  by_bool (is_le (bytes_cmp low row)) (λ t. absurd (true≢false (not_below ts low row p k q lt r t))) (λ f. f),
  by_bool (is_lt (bytes_cmp low row)) (λ t. absurd (true≢false (not_below ts low row p k q lt r (lt_up_to low row t)))) (λ f. f),
)

-- those behind that of the high row hold nothing below it
pub none_below : (ts : List Tablet) (high row : List ℕ) (p k : ℕ) → IsPlaceOf high ts p → p < k → IsPlaceOf row ts k → (is_below (Inclusive high) row ≡ false) × (is_below (Exclusive high) row ≡ false)
none_below ts high row p k q lt r = (
  by_bool (is_le (bytes_cmp row high)) (λ t. absurd (true≢false (not_below ts row high k p r lt q t))) (λ f. f),
  by_bool (is_lt (bytes_cmp row high)) (λ t. absurd (true≢false (not_below ts row high k p r lt q (lt_up_to row high t)))) (λ f. f),
)

-- ---- what is read, in its order
abbrev pub in_its_order : Sources → List Record
in_its_order c = sorted (records_of c)

abbrev pub part_sorted : Bounds → Tablet → List Record
part_sorted bounds t = sorted (part_in bounds t)

-- ---- tablets outside of a range
module _ (g : Tablet → List Record) where
  none_first : (n : ℕ) (ts : List Tablet) → ((k : ℕ) → k < n → k < length ts → g (tablet_at ts k) ≡ []) → flat (map g (take n ts)) ≡ []
  none_first zero [] f = refl
  none_first zero (t ∷ ts) f = refl
  none_first (suc n) [] f = refl
  none_first (suc n) (t ∷ ts) f = λ i. f 0 (omega arith) (omega arith) i ++ none_first n ts (λ k a b. f (suc k) (omega arith) (omega arith)) i

  none_of : (ts : List Tablet) → ((k : ℕ) → k < length ts → g (tablet_at ts k) ≡ []) → flat (map g ts) ≡ []
  none_of [] f = refl
  none_of (t ∷ ts) f = λ i. f 0 (omega arith) i ++ none_of ts (λ k b. f (suc k) (omega arith)) i

  none_last : (n : ℕ) (ts : List Tablet) → ((k : ℕ) → n ≤ k → k < length ts → g (tablet_at ts k) ≡ []) → flat (map g (drop n ts)) ≡ []
  none_last zero [] f = refl
  none_last zero (t ∷ ts) f = none_of (t ∷ ts) (λ k b. f k (omega arith) b)
  none_last (suc n) [] f = refl
  none_last (suc n) (t ∷ ts) f = none_last n ts (λ k a b. f (suc k) (omega arith) (omega arith))

  joined : (xs ys : List Tablet) → flat (map g (xs ++ ys)) ≡ flat (map g xs) ++ flat (map g ys)
  joined xs ys = ap flat (map-append g xs ys) ∙ flat_append (map g xs) (map g ys)

  pub within : (ts : List Tablet) (a b : ℕ) → a ≤ b → ((k : ℕ) → k < length ts → (k < a) ⊎ (b ≤ k) → g (tablet_at ts k) ≡ []) → flat (map g (slice_range ts a b)) ≡ flat (map g ts)
  within ts a b le f =
      let parts : ts ≡ take a ts ++ (slice_range ts a b ++ drop b ts) = split_between ts a b le in
      let low : flat (map g (take a ts)) ≡ [] = none_first a ts (λ k lt in_ts. f k in_ts (inl lt)) in
      let high : flat (map g (drop b ts)) ≡ [] = none_last b ts (λ k ge in_ts. f k in_ts (inr ge)) in
      sym (ap (λ l. flat (map g l)) parts ∙ joined (take a ts) (slice_range ts a b ++ drop b ts) ∙ (λ i. low i ++ joined (slice_range ts a b) (drop b ts) i) ∙ ap (λ l. flat (map g (slice_range ts a b)) ++ l) high ∙ append-nil (flat (map g (slice_range ts a b))))

-- ---- what is read
-- the same records in another order are sorted to one list
pub sorted_once : (xs ys : List Record) → IsDistinct xs → IsPermutation xs ys → sorted xs ≡ sorted ys
sorted_once xs ys d p =
    same_rising (sorted xs) (sorted ys) (rising_sorted xs d) (rising_sorted ys (distinct_permuted xs ys p d))
    (λ u h. sorted_in ys u (in_from ys u (Contains-permutation xs ys u p (in_to xs u (in_sorted xs u h)))))
    (λ u h. sorted_in xs u (in_from xs u (Contains-permutation ys xs u (IsPermutation-sym xs ys p) (in_to ys u (in_sorted ys u h)))))

abbrev pub in_order : List Tablet → List Record
in_order ts = flat (map (λ (t : Tablet). sorted (records_in t)) ts)

pub held_permuted : (ts : List Tablet) → IsPermutation (in_order ts) (records_of_all ts)
held_permuted [] = IsPermutation-refl []
held_permuted (t ∷ ts) = IsPermutation-append (sorted (records_in t)) (records_in t) (in_order ts) (records_of_all ts) (IsPermutation-sym (records_in t) (sorted (records_in t)) (permuted_sorted (records_in t))) (held_permuted ts)

frozen_all : (ts : List Tablet) → IsPermutation (records_of_all ts) (records_of_all (map frozen ts))
frozen_all [] = IsPermutation-refl []
frozen_all (t ∷ ts) = IsPermutation-append (records_in t) (records_in (frozen t)) (records_of_all ts) (records_of_all (map frozen ts)) (frozen_permuted t) (frozen_all ts)

module _ (bounds : Bounds) where
  abbrev seen : Record → Bool
  seen u = is_in_range bounds u.key.row

  parts_are : (ts : List Tablet) → flat (map (part_in bounds) ts) ≡ filter seen (records_of_all (map frozen ts))
  parts_are [] = refl
  parts_are (t ∷ ts) = ap (λ l. part_in bounds t ++ l) (parts_are ts) ∙ sym (filter-append seen (records_in (frozen t)) (records_of_all (map frozen ts)))

  parts_rise : (ts : List Tablet) → IsDistinct (in_order ts) → flat (map (λ (t : Tablet). sorted (part_in bounds t)) ts) ≡ filter seen (in_order ts)
  parts_rise [] d = refl
  parts_rise (t ∷ ts) d =
      let here : IsDistinct (records_in t) = distinct_permuted (sorted (records_in t)) (records_in t) (IsPermutation-sym (records_in t) (sorted (records_in t)) (permuted_sorted (records_in t))) (distinct_left (sorted (records_in t)) (in_order ts) d) in
      (λ i. (sorted_filter seen (records_in (frozen t)) (frozen_distinct_in t here) ∙ ap (filter seen) (frozen_sorted t here)) i ++ parts_rise ts (distinct_right (sorted (records_in t)) (in_order ts) d) i)
      ∙ sym (filter-append seen (sorted (records_in t)) (in_order ts))

  -- the parts, each in its order
  parts_permuted : (ts : List Tablet) → IsPermutation (flat (map (λ (t : Tablet). sorted (part_in bounds t)) ts)) (flat (map (part_in bounds) ts))
  parts_permuted [] = IsPermutation-refl []
  parts_permuted (t ∷ ts) = IsPermutation-append (sorted (part_in bounds t)) (part_in bounds t) (flat (map (λ (t : Tablet). sorted (part_in bounds t)) ts)) (flat (map (part_in bounds) ts)) (IsPermutation-sym (part_in bounds t) (sorted (part_in bounds t)) (permuted_sorted (part_in bounds t))) (parts_permuted ts)

  module _ (ts : List Tablet) (apart : LieApart ts) where
    once : IsDistinct (in_order ts)
    once = rising_distinct (in_order ts) apart

    pub shows : (v : List Record) → v ≡ flat (map (part_in bounds) ts) → ShowsRowsOf bounds (sorted (records_of_all ts)) v
    shows v e = λ n columns auths.
        let after = records_of_all (map frozen ts) in
        let permuted : IsPermutation (in_order ts) after = IsPermutation-trans (in_order ts) (records_of_all ts) after (held_permuted ts) (frozen_all ts) in
        ap (λ l. cells l n (query_of columns auths)) (e ∙ parts_are ts)
        ∙ cells_open after n bounds columns auths (distinct_permuted (in_order ts) after permuted once)
        ∙ ap (λ l. cells l n (record { bounds = bounds; columns = columns; authorizations = auths })) (sym (sorted_once (in_order ts) after once permuted) ∙ sorted_once (in_order ts) (records_of_all ts) once (held_permuted ts))

    -- what holds the same records, in any order, shows the same
    pub shows_once : (v : List Record) → IsDistinct v → IsPermutation v (flat (map (part_in bounds) ts)) → ShowsRowsOf bounds (sorted (records_of_all ts)) v
    shows_once v d p = λ n columns auths.
        let u = flat (map (part_in bounds) ts) in
        sym (cells_sorted v (sorted v) n columns auths d refl)
        ∙ ap (λ l. cells l n (query_of columns auths)) (sorted_once v u d p)
        ∙ cells_sorted u (sorted u) n columns auths (distinct_permuted v u p d) refl
        ∙ shows u refl n columns auths

    pub rises : IsRising (flat (map (λ (t : Tablet). sorted (part_in bounds t)) ts))
    rises = subst IsRising (sym (parts_rise ts once)) (IsStrictlySortedBy-filter record_cmp seen (in_order ts) apart)

-- ---- what an Open reads of the tablets from one place up to another
module _ (bounds : Bounds) (ts : List Tablet) (own : HoldOwnRows ts) (apart : LieApart ts) (a e b : ℕ) (order : a ≤ b) (reach : e ≤ b)
    (low : (k : ℕ) (row : List ℕ) → k < a → IsPlaceOf row ts k → is_above bounds.low row ≡ false) (high : (k : ℕ) (row : List ℕ) → e ≤ k → IsPlaceOf row ts k → is_below bounds.high row ≡ false) where
  unseen : (k : ℕ) → k < length ts → (k < a) ⊎ (b ≤ k) → part_in bounds (tablet_at ts k) ≡ []
  unseen k in_ts o = filter_none (λ (u : Record). is_in_range bounds u.key.row) (records_in (frozen (tablet_at ts k))) (λ u h. go o u (own_place ts k u own in_ts (frozen_in (tablet_at ts k) u h)))
    where
      go : (k < a) ⊎ (b ≤ k) → (u : Record) → IsPlaceOf u.key.row ts k → is_in_range bounds u.key.row ≡ false
      go (inl lt) u q = ap (λ v. v && is_below bounds.high u.key.row) (low k u.key.row lt q)
      go (inr ge) u q = ap (λ v. is_above bounds.low u.key.row && v) (high k u.key.row (omega arith) q) ∙ and_false (is_above bounds.low u.key.row)

  module _ (cs : List Sources) (are : flat (map in_its_order cs) ≡ flat (map (part_sorted bounds) (slice_range ts a b))) where
    all_are : flat (map in_its_order cs) ≡ flat (map (part_sorted bounds) ts)
    all_are = are ∙ within (part_sorted bounds) ts a b order (λ k in_ts o. ap sorted (unseen k in_ts o))

    pub clips_rise : IsRising (flat (map (λ (c : Sources). sorted (records_of c)) cs))
    clips_rise = subst IsRising (sym all_are) (rises bounds ts apart)

    pub clips_show : (v : List Record) → v ≡ flat (map records_of cs) → ShowsRowsOf bounds (sorted (records_of_all ts)) v
    clips_show v is =
        let w = flat (map records_of cs) in
        let u = flat (map (part_in bounds) ts) in
        subst (ShowsRowsOf bounds (sorted (records_of_all ts))) (sym is)
        (shows_once bounds ts apart w (all_distinct cs clips_rise)
        (IsPermutation-trans w (flat (map (part_sorted bounds) ts)) u (subst (IsPermutation w) (sym (all_sorted cs clips_rise) ∙ all_are) (permuted_sorted w)) (parts_permuted bounds ts)))

-- one tablet more
pub range_more : (bounds : Bounds) (ts : List Tablet) (from i : ℕ) (cs : List Sources) (c : Sources) → from ≤ i → i < length ts → map in_its_order cs ≡ map (part_sorted bounds) (slice_range ts from i) → in_its_order c ≡ part_sorted bounds (tablet_at ts i)
    → map in_its_order (cs ++ c ∷ []) ≡ map (part_sorted bounds) (slice_range ts from (i + 1))
range_more bounds ts from i cs c le lt are is =
    map-append in_its_order cs (c ∷ [])
    ∙ (λ j. are j ++ is j ∷ [])
    ∙ sym (map-append (part_sorted bounds) (slice_range ts from i) (tablet_at ts i ∷ []))
    ∙ ap (map (part_sorted bounds)) (sym (between_more ts from i (new_tablet 0 None) le lt))

-- and none at first
pub range_none : (bounds : Bounds) (ts : List Tablet) (i : ℕ) → map (part_sorted bounds) (slice_range ts i i) ≡ []
range_none bounds ts i = ap (map (part_sorted bounds)) (between_none ts i)
