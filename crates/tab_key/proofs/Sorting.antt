-- A list in order that holds the records of a list of distinct ones is that list, sorted.
use Rattle.std.proofs.Common.{◌≡◌, ◌≢◌, ℕ, suc, ◌+◌, ◌<◌, ◌≤◌, List, [], ◌∷◌, false, cond, refl, sym, ◌∙◌, ap, subst, length, arith}
use Rattle.std.specs.List.{AllByRecursion, slice_index_or, sum_by}
use Rattle.std.specs.List.Sorted.{IsStrictlySortedBy, IsSortedBy, IsPermutation}
use Rattle.std.specs.Ordering.{is_lt, is_eq, ordering_reverse}
use Rattle.std.specs.Cmp.{IsStrictWeakOrder, tied_itself}
use Rattle.std.specs.declared.cmp.Ordering.{Ordering}
use Rattle.std.specs.declared.cmp.Ordering.TheVariants.{Less, Equal, Greater}
use Rattle.std.proofs.lemmas.List.Sorted.{ranks_by, sorted_far, IsPermutation-sym, Contains-permutation, sum_by-IsPermutation}
use Rattle.std.proofs.lemmas.List.Sums.{sum_by-cons}
use mathlib.Core.Bool.{true≢false}
use Rattle.tab_key.specs.Order.{record_cmp, stands_before}
use Rattle.tab_key.proofs.Order.{record_cmp_total}
use Rattle.tab_key.specs.Sorted.{sorted, IsDistinct}
use Rattle.tab_key.specs.Records.{Record}
use Rattle.tab_key.proofs.Rising.{in_from, in_to, in_sorted, sorted_in, rising_sorted, same_rising}

-- `stands_before` is an order as a sort wants it
pub before_order : IsStrictWeakOrder stands_before
before_order = ranks_by record_cmp_total (λ (r : Record). r)

abbrev one_if_equal : Ordering → ℕ
one_if_equal o = cond (is_eq o) 1 0

-- 1 for a record at the place of r, else 0
abbrev tied : Record → Record → ℕ
tied r s = one_if_equal (record_cmp r s)

abbrev NotTied : Record → Record → Type 0
NotTied r s = record_cmp r s ≢ Equal

other_none : (o : Ordering) → o ≢ Equal → one_if_equal o ≡ 0
other_none Less n = refl
other_none Equal n = absurd (n refl)
other_none Greater n = refl

none_other : (o : Ordering) → one_if_equal o ≡ 0 → o ≢ Equal
none_other Less z e = absurd cc
none_other Equal z e = absurd (omega (arith, z))
none_other Greater z e = absurd cc

tied_none : (r : Record) (xs : List Record) → AllByRecursion (NotTied r) xs → sum_by (tied r) xs ≡ 0
tied_none r [] a = refl
tied_none r (x ∷ xs) a = omega (arith, sum_by-cons (tied r) x xs, other_none (record_cmp r x) a.0, tied_none r xs a.1)

none_tied : (r : Record) (xs : List Record) → sum_by (tied r) xs ≡ 0 → AllByRecursion (NotTied r) xs
none_tied r [] z = tt
none_tied r (x ∷ xs) z =
    (none_other (record_cmp r x) (omega (arith, sum_by-cons (tied r) x xs)), none_tied r xs (omega (arith, sum_by-cons (tied r) x xs)))

also_apart : (r x : Record) → record_cmp r x ≡ Equal → (xs : List Record) → AllByRecursion (NotTied x) xs → AllByRecursion (NotTied r) xs
also_apart r x e [] a = tt
also_apart r x e (y ∷ ys) a = ((λ t. a.0 (sym (record_cmp_total.congr r x y e) ∙ t)), also_apart r x e ys a.1)

tied_once : (r : Record) (xs : List Record) → IsDistinct xs → sum_by (tied r) xs ≤ 1
tied_once r [] d = omega arith
tied_once r (x ∷ xs) d = go (record_cmp r x) refl (tied_once r xs d.1)
  where
    go : (o : Ordering) → record_cmp r x ≡ o → sum_by (tied r) xs ≤ 1 → sum_by (tied r) (x ∷ xs) ≤ 1
    go Less e ih = omega (arith, sum_by-cons (tied r) x xs, ap one_if_equal e)
    go Equal e ih = omega (arith, sum_by-cons (tied r) x xs, ap one_if_equal e, tied_none r xs (also_apart r x e xs d.0))
    go Greater e ih = omega (arith, sum_by-cons (tied r) x xs, ap one_if_equal e)

once_distinct : (xs : List Record) → ((r : Record) → sum_by (tied r) xs ≤ 1) → IsDistinct xs
once_distinct [] h = tt
once_distinct (x ∷ xs) h =
    let itself : tied x x ≡ 1 = ap one_if_equal (tied_itself record_cmp_total x) in
    (none_tied x xs (omega (arith, sum_by-cons (tied x) x xs, h x)), once_distinct xs (λ r. omega (arith, sum_by-cons (tied r) x xs, h r)))

pub distinct_permuted : (xs ys : List Record) → IsPermutation xs ys → IsDistinct xs → IsDistinct ys
distinct_permuted xs ys p d = once_distinct ys (λ r. subst (λ n. n ≤ 1) (sym (sum_by-IsPermutation (tied r) xs ys p)) (tied_once r xs d))

all_from_index : (P : Record → Type 0) (xs : List Record) → ((k : ℕ) (d : Record) → k < length xs → P (slice_index_or xs k d)) → AllByRecursion P xs
all_from_index P [] h = tt
all_from_index P (x ∷ xs) h = (h 0 x (omega arith), all_from_index P xs (λ k d lt. h (suc k) d (omega arith)))

less_else : (o : Ordering) → is_lt o ≡ false → ordering_reverse o ≢ Equal → ordering_reverse o ≡ Less
less_else Less f n = absurd (true≢false f)
less_else Equal f n = absurd (n refl)
less_else Greater f n = refl

all_less : (x : Record) (xs : List Record) → AllByRecursion (λ y. stands_before y x ≡ false) xs → AllByRecursion (NotTied x) xs → AllByRecursion (λ y. record_cmp x y ≡ Less) xs
all_less x [] l n = tt
all_less x (y ∷ ys) l n =
    let back : record_cmp x y ≡ ordering_reverse (record_cmp y x) = record_cmp_total.antisymm x y in
    (back ∙ less_else (record_cmp y x) l.0 (λ e. n.0 (back ∙ e)), all_less x ys l.1 n.1)

-- neighbours in order, and no two at one place
pub strictly_from_sorted : (xs : List Record) → IsSortedBy stands_before xs → IsDistinct xs → IsStrictlySortedBy record_cmp xs
unfolding IsStrictlySortedBy
strictly_from_sorted [] s d = tt
strictly_from_sorted (x ∷ xs) s d =
    let later : AllByRecursion (λ y. stands_before y x ≡ false) xs = all_from_index (λ y. stands_before y x ≡ false) xs (λ k e lt. sorted_far stands_before before_order (x ∷ xs) s 0 (suc k) e (omega arith) (omega arith)) in
    let next : (k : ℕ) → suc k + 1 ≡ suc (k + 1) = λ k. omega arith in
    (all_less x xs later d.0, strictly_from_sorted xs (λ k e low high. subst (λ n. stands_before (slice_index_or (x ∷ xs) n e) (slice_index_or xs k e) ≡ false) (next k) (s (suc k) e (omega arith) (omega arith))) d.1)

pub sorted_permutation : (xs ys : List Record) → IsDistinct xs → IsPermutation xs ys → IsSortedBy stands_before ys → ys ≡ sorted xs
sorted_permutation xs ys d p s =
    same_rising ys (sorted xs) (strictly_from_sorted ys s (distinct_permuted xs ys p d)) (rising_sorted xs d)
    (λ u h. sorted_in xs u (in_from xs u (Contains-permutation ys xs u (IsPermutation-sym xs ys p) (in_to ys u h))))
    (λ u h. in_from ys u (Contains-permutation xs ys u p (in_to xs u (in_sorted xs u h))))
