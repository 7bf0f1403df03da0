-- Groups in another order, and their records in their order.
use Rattle.std.proofs.Common.{◌≡◌, ◌⊎◌, inl, inr, ℕ, zero, suc, ◌<◌, List, [], ◌∷◌, ◌++◌, refl, subst, append_assoc, length, get_or, set, arith}
use Rattle.std.specs.List.{AllByRecursion, swap}
use Rattle.std.specs.List.Sorted.{IsPermutation, IsStrictlySortedBy}
use Rattle.std.specs.declared.cmp.Ordering.TheVariants.{Less}
use Rattle.std.proofs.lemmas.List.Edits.{swap_is}
use Rattle.std.proofs.lemmas.List.Elements.{All-from_recursion, recursion_from_All}
use Rattle.std.proofs.lemmas.List.Sorted.{IsPermutation-refl, IsPermutation-trans, IsPermutation-append_left, IsPermutation-append_right, IsPermutation-append_comm, IsPermutation-keeps, All-permutation}
use Rattle.tab_key.specs.Order.{record_cmp}
use Rattle.tab_key.specs.Records.{Record}
use Rattle.tab_key.specs.Sorted.{sorted, IsDistinct, IsIn}
use Rattle.tab_key.proofs.Each.{each_append}
use Rattle.tab_key.proofs.Rising.{same_rising, in_sorted, sorted_in, rising_sorted}
use Rattle.tab_key.proofs.Sorting.{distinct_permuted}
use Rattle.tab_cells.proofs.Lists.{in_append, in_left, in_right}
use Rattle.tab_iter.specs.Bags.{flat}
use Rattle.tab_iter.proofs.BagLaws.{apart_left, apart_right}
use Rattle.tab_iter.proofs.ListLaws.{each_in}
use Rattle.tab_mem.proofs.Writing.{sorted_same}

-- ---- two of them change places
fronts_swapped : (x y zs : List Record) → IsPermutation (x ++ (y ++ zs)) (y ++ (x ++ zs))
fronts_swapped x y zs =
    subst (λ (l : List Record). IsPermutation l (y ++ (x ++ zs))) (append_assoc x y zs)
    (subst (IsPermutation ((x ++ y) ++ zs)) (append_assoc y x zs) (IsPermutation-append_left zs (x ++ y) (y ++ x) (IsPermutation-append_comm x y)))

-- one takes the place of another
replaced : (x : List Record) (ws : List (List Record)) (i : ℕ) (d : List Record) → i < length ws → IsPermutation (x ++ flat ws) (get_or ws i d ++ flat (set ws i x))
replaced x [] i d lt = absurd (omega (arith, lt))
replaced x (w ∷ ws) zero d lt = fronts_swapped x w (flat ws)
replaced x (w ∷ ws) (suc i) d lt =
    let g = get_or ws i d in
    let rest = flat (set ws i x) in
    IsPermutation-trans (x ++ (w ++ flat ws)) (w ++ (x ++ flat ws)) (g ++ (w ++ rest)) (fronts_swapped x w (flat ws))
    (IsPermutation-trans (w ++ (x ++ flat ws)) (w ++ (g ++ rest)) (g ++ (w ++ rest)) (IsPermutation-append_right w (x ++ flat ws) (g ++ rest) (replaced x ws i d (omega (arith, lt)))) (fronts_swapped w g rest))

exchanged : (ws : List (List Record)) (i j : ℕ) (d : List Record) → i < length ws → j < length ws → IsPermutation (flat ws) (flat (set (set ws i (get_or ws j d)) j (get_or ws i d)))
exchanged [] i j d li lj = absurd (omega (arith, li))
exchanged (w ∷ ws) zero zero d li lj = IsPermutation-refl (w ++ flat ws)
exchanged (w ∷ ws) zero (suc j) d li lj = replaced w ws j d (omega (arith, lj))
exchanged (w ∷ ws) (suc i) zero d li lj = replaced w ws i d (omega (arith, li))
exchanged (w ∷ ws) (suc i) (suc j) d li lj =
    IsPermutation-append_right w (flat ws) (flat (set (set ws i (get_or ws j d)) j (get_or ws i d))) (exchanged ws i j d (omega (arith, li)) (omega (arith, lj)))

flat_moved : (ws vs : List (List Record)) → IsPermutation ws vs → IsPermutation (flat ws) (flat vs)
flat_moved ws vs p = IsPermutation-keeps ws (λ l. IsPermutation (flat ws) (flat l)) (IsPermutation-refl (flat ws)) step vs p
  where
    step : (l : List (List Record)) (i j : ℕ) → i < length l → j < length l → IsPermutation (flat ws) (flat l) → IsPermutation (flat ws) (flat (swap l i j))
    step l i j li lj h = IsPermutation-trans (flat ws) (flat l) (flat (swap l i j)) h (subst (λ (m : List (List Record)). IsPermutation (flat l) (flat m)) (swap_is l i j [] li lj) (exchanged l i j [] li lj))

-- ---- what that leaves
pub flat_distinct : (ws vs : List (List Record)) → IsPermutation ws vs → IsDistinct (flat ws) → IsDistinct (flat vs)
flat_distinct ws vs p d = distinct_permuted (flat ws) (flat vs) (flat_moved ws vs p) d

pub flat_sorted : (ws vs : List (List Record)) → IsPermutation ws vs → IsDistinct (flat ws) → sorted (flat vs) ≡ sorted (flat ws)
flat_sorted ws vs p d = sorted_same (flat ws) (flat vs) d (flat_moved ws vs p)

pub each_moved : (P : List Record → Type 0) (ws vs : List (List Record)) → IsPermutation ws vs → AllByRecursion P ws → AllByRecursion P vs
each_moved P ws vs p a = recursion_from_All P vs (All-permutation P ws vs p (All-from_recursion P ws a))

-- ---- records that all stand before others
rising_both : (xs ys : List Record) → IsStrictlySortedBy record_cmp xs → IsStrictlySortedBy record_cmp ys → ((x y : Record) → IsIn xs x → IsIn ys y → record_cmp x y ≡ Less) → IsStrictlySortedBy record_cmp (xs ++ ys)
unfolding IsStrictlySortedBy
rising_both [] ys r s f = s
rising_both (x ∷ xs) ys r s f = (each_append (λ y. record_cmp x y ≡ Less) xs ys r.0 (each_in (λ y. record_cmp x y ≡ Less) ys (λ y h. f x y (inl refl) h)), rising_both xs ys r.1 s (λ z y h k. f z y (inr h) k))

pub sorted_apart : (xs ys : List Record) → IsDistinct (xs ++ ys) → ((x y : Record) → IsIn xs x → IsIn ys y → record_cmp x y ≡ Less) → sorted (xs ++ ys) ≡ sorted xs ++ sorted ys
sorted_apart xs ys d f = same_rising (sorted (xs ++ ys)) (sorted xs ++ sorted ys) (rising_sorted (xs ++ ys) d) rises to from
  where
    rises : IsStrictlySortedBy record_cmp (sorted xs ++ sorted ys)
    rises = rising_both (sorted xs) (sorted ys) (rising_sorted xs (apart_left xs ys d)) (rising_sorted ys (apart_right xs ys d)) (λ x y h k. f x y (in_sorted xs x h) (in_sorted ys y k))

    to : (u : Record) → IsIn (sorted (xs ++ ys)) u → IsIn (sorted xs ++ sorted ys) u
    to u h = go (in_append xs ys u (in_sorted (xs ++ ys) u h))
      where
        go : IsIn xs u ⊎ IsIn ys u → IsIn (sorted xs ++ sorted ys) u
        go (inl k) = in_left (sorted xs) (sorted ys) u (sorted_in xs u k)
        go (inr k) = in_right (sorted xs) (sorted ys) u (sorted_in ys u k)

    from : (u : Record) → IsIn (sorted xs ++ sorted ys) u → IsIn (sorted (xs ++ ys)) u
    from u h = go (in_append (sorted xs) (sorted ys) u h)
      where
        go : IsIn (sorted xs) u ⊎ IsIn (sorted ys) u → IsIn (sorted (xs ++ ys)) u
        go (inl k) = sorted_in (xs ++ ys) u (in_left xs ys u (in_sorted xs u k))
        go (inr k) = sorted_in (xs ++ ys) u (in_right xs ys u (in_sorted ys u k))
