-- Byte strings in a rising list.
use Rattle.std.proofs.Common.{◌≡◌, ℕ, suc, zero, ◌+◌, ◌<◌, ◌≤◌, ◌↔◌, inl, inr, true, false, List, [], ◌∷◌, length, get_or, map, refl, sym, ap, subst, ◌∙◌, arith, Result, Ok, Err, Some, None}
use Rattle.std.specs.Prelude.{Vec}
use Rattle.std.specs.declared.alloc.Global.{Global}
use Rattle.std.specs.declared.cmp.Ordering.TheVariants.{Less, Equal}
use Rattle.std.specs.Str.{bytes_eq}
use Rattle.std.specs.List.{All, AllZip, Contains, dedup, AllByRecursion}
use Rattle.std.specs.List.Sorted.{IsStrictlySortedBy, IsSorted, IsSortedBy, IsPermutation, IsBinarySearchResult, IsSearchInRange}
use Rattle.std.specs.Ordering.{nat_cmp, is_lt, on}
use Rattle.std.specs.Cmp.Lexicographic.{slice_cmp, on_texts, on_texts_equal, texts_ties}
use Rattle.std.specs.FinMap.{slice_cmp-IsAntisymmetric, nat_cmp-IsAntisymmetric}
use Rattle.std.specs.Result.{is_ok}
use Rattle.std.proofs.lemmas.Cmp.{nat_list_cmp_total, tied_itself}
use Rattle.std.proofs.Math.Nat.{eq-or-lt_of_le}
use Rattle.std.proofs.lemmas.Bool.{cases_lt}
use Rattle.std.proofs.lemmas.List.{get_or_default}
use Rattle.std.proofs.lemmas.List.Elements.{All-nil, All-cons}
use Rattle.std.proofs.lemmas.Slice.Eq.{bytes_eq-Decides}
use Rattle.std.proofs.lemmas.List.Kept.{IsStrictlySortedBy-dedup, Any-dedup, Contains-from_dedup}
use Rattle.std.proofs.lemmas.List.Sorted.{Contains-permutation, IsPermutation-sym, searchable_from_sorted}
use Rattle.tab_label.specs.Sets.{byte_lists, IsRising, IsFirstMissing, first_missing}
use Rattle.tab_label.proofs.SetLemmas.{has_is, has_not}

abbrev Bytes : Type 0
Bytes = Vec ℕ Global

abbrev shown : Bytes → List ℕ
shown v = v.items

all_of : (R : List ℕ → Type 0) (xs : List Bytes) → AllByRecursion (λ v. R (shown v)) xs → AllByRecursion R (map shown xs)
all_of R [] h = tt
all_of R (x ∷ xs) h = (h.0, all_of R xs h.1)

rising_of : (xs : List Bytes) → IsStrictlySortedBy (on shown (slice_cmp nat_cmp)) xs → IsRising (map shown xs)
unfolding IsStrictlySortedBy
rising_of [] h = tt
rising_of (x ∷ xs) h = (all_of (λ y. slice_cmp nat_cmp (shown x) y ≡ Less) xs h.0, rising_of xs h.1)

pub rising_after : (xs : List Bytes) → IsSorted (on shown (slice_cmp nat_cmp)) xs → IsRising (map shown (dedup (on shown bytes_eq) xs))
rising_after xs h = rising_of (dedup (on shown bytes_eq) xs) (IsStrictlySortedBy-dedup (on_texts shown) (λ x y. texts_ties (shown x) (shown y)) xs h)

-- An element of the mapped list comes from one of the list.
from_shown : (xs : List Bytes) (t : List ℕ) (k : ℕ) → k < length (map shown xs) → get_or (map shown xs) k t ≡ t → (v : Bytes) × Contains xs v × (shown v ≡ t)
from_shown [] t k lt is = absurd (omega arith)
from_shown (x ∷ xs) t zero lt is = (x, (0, omega arith, refl), is)
from_shown (x ∷ xs) t (suc k) lt is =
    let (v, (i, le, at), same) = from_shown xs t k (omega arith) is in
    (v, (suc i, omega arith, at), same)

to_shown : (xs : List Bytes) (v : Bytes) (k : ℕ) → k < length xs → get_or xs k v ≡ v → Contains (map shown xs) (shown v)
to_shown [] v k lt is = absurd (omega arith)
to_shown (x ∷ xs) v zero lt is = (0, omega arith, ap shown is)
to_shown (x ∷ xs) v (suc k) lt is =
    let (i, le, at) = to_shown xs v k (omega arith) is in
    (suc i, omega arith, at)

pub contains_shown : (xs : List Bytes) (v : Bytes) → Contains xs v → Contains (byte_lists xs) (shown v)
contains_shown xs v (k, lt, is) = to_shown xs v k lt is

kept : (xs ys : List Bytes) (t : List ℕ) → IsPermutation xs ys → Contains (byte_lists (dedup (on shown bytes_eq) ys)) t → Contains (byte_lists xs) t
kept xs ys t moved (k, lt, is) =
    let (v, within, same) = from_shown (dedup (on shown bytes_eq) ys) t k lt is in
    rw same at (contains_shown xs v (Contains-permutation ys xs v (IsPermutation-sym xs ys moved) (Contains-from_dedup (on shown bytes_eq) ys v within)))

keeps : (xs ys : List Bytes) (t : List ℕ) → IsPermutation xs ys → Contains (byte_lists xs) t → Contains (byte_lists (dedup (on shown bytes_eq) ys)) t
keeps xs ys t moved (k, lt, is) =
    let (v, within, same) = from_shown xs t k lt is in
    let (i, w, below, at, tied) = Any-dedup (on_texts_equal shown) ys v (Contains-permutation xs ys v moved within) in
    let equal : shown v ≡ shown w = (bytes_eq-Decides (shown v) (shown w)).0 tied in
    rw (sym equal ∙ same) at (contains_shown (dedup (on shown bytes_eq) ys) w (i, below, at))

pub same_members : (xs ys : List Bytes) (t : List ℕ) → IsPermutation xs ys → Contains (byte_lists (dedup (on shown bytes_eq) ys)) t ↔ Contains (byte_lists xs) t
same_members xs ys t moved = (kept xs ys t moved, keeps xs ys t moved)

-- of the two, the later isn't below
not_below : (x y : List ℕ) → slice_cmp nat_cmp x y ≡ Less → is_lt (slice_cmp nat_cmp y x) ≡ false
not_below x y h = rw (nat_list_cmp_total.antisymm y x, h) refl

below_each : (R : List ℕ → Type 0) (xs : List Bytes) (k : ℕ) (d : Bytes) → AllByRecursion R (map shown xs) → k < length xs → R (shown (get_or xs k d))
below_each R [] k d h lt = absurd (omega arith)
below_each R (x ∷ xs) zero d h lt = h.0
below_each R (x ∷ xs) (suc k) d h lt = below_each R xs k d h.1 (omega arith)

rising_pairs : (xs : List Bytes) (i k : ℕ) (d : Bytes) → IsRising (map shown xs) → i < k → k < length xs → slice_cmp nat_cmp (shown (get_or xs i d)) (shown (get_or xs k d)) ≡ Less
unfolding IsStrictlySortedBy
rising_pairs [] i k d h lt le = absurd (omega arith)
rising_pairs (x ∷ xs) zero zero d h lt le = absurd (omega arith)
rising_pairs (x ∷ xs) zero (suc k) d h lt le = below_each (λ y. slice_cmp nat_cmp (shown x) y ≡ Less) xs k d h.0 (omega arith)
rising_pairs (x ∷ xs) (suc i) zero d h lt le = absurd (omega arith)
rising_pairs (x ∷ xs) (suc i) (suc k) d h lt le = rising_pairs xs i k d h.1 (omega arith) (omega arith)

sorted_from : (xs : List Bytes) → IsRising (map shown xs) → IsSortedBy (λ a b. is_lt (slice_cmp nat_cmp (shown a) (shown b))) xs
sorted_from xs h k d le lt = not_below (shown (get_or xs k d)) (shown (get_or xs (k + 1) d)) (rising_pairs xs k (k + 1) d h (omega arith) lt)

at_shown : (xs : List Bytes) (t : List ℕ) (k : ℕ) → k < length xs → ((d : Bytes) → shown (get_or xs k d) ≡ t) → Contains (byte_lists xs) t
at_shown [] t k lt is = absurd (omega arith)
at_shown (x ∷ xs) t zero lt is = (0, omega arith, is x)
at_shown (x ∷ xs) t (suc k) lt is =
    let (i, le, at) = at_shown xs t k (omega arith) is in
    (suc i, omega arith, at)

same_bytes : (x y : List ℕ) → slice_cmp nat_cmp x y ≡ Equal → x ≡ y
same_bytes = slice_cmp-IsAntisymmetric nat_cmp-IsAntisymmetric

-- A binary search says whether the byte string is there.
pub searched : (xs : List Bytes) (t : List ℕ) (r : Result ℕ ℕ) → IsRising (byte_lists xs) → IsSearchInRange r (length xs) → IsBinarySearchResult (λ v. slice_cmp nat_cmp (shown v) t) xs r → (is_ok r ≡ true) ↔ Contains (byte_lists xs) t
searched xs t (Ok at) rising within equal = (λ e. at_shown xs t at within (λ d. same_bytes (shown (get_or xs at d)) t (equal d)), λ h. refl)
searched xs t (Err at) rising within parted = (λ e. absurd cc, λ h. absurd (none h))
  where
    none : Contains (byte_lists xs) t → ⊥
    none (k, lt, is) =
        let (v, (i, le, here), same) = from_shown xs t k lt is in
        let parts = parted (searchable_from_sorted nat_list_cmp_total shown xs t (sorted_from xs rising)) in
        let tied : slice_cmp nat_cmp (shown (get_or xs i v)) t ≡ Equal = rw (here, same) (tied_itself nat_list_cmp_total t) in
        elim (cases_lt i at) [
          | inl before ↦ let less = parts.0 i v (omega arith) before in cc
          | inr after ↦ let greater = parts.1 i v after le in cc
        ]

-- The first that the loop finds to be missing.
pub first_is : (xs : List Bytes) (ys : List (List ℕ)) (i : ℕ) (v : Bytes) → IsRising (byte_lists xs) → i < length xs → v ≡ get_or xs i v → ((k : ℕ) (d : Bytes) → k < i → Contains ys (shown (get_or xs k d))) → (Contains ys (shown v) → ⊥)
    → IsFirstMissing (byte_lists xs) ys (shown v)
first_is xs ys i v rising lt here before missing = record {
  held = to_shown xs v i lt (sym here);
  missing = missing;
  least = λ other (k, within, is) lacks. none_below other (from_shown xs other k within is) lacks;
}
  where
    is_itself : (w : Bytes) (k : ℕ) → get_or xs k w ≡ w → i ≡ k → w ≡ v
    is_itself w k at now =
        let same : get_or xs i v ≡ get_or xs i w = get_or_default xs i v w lt in
        sym (here ∙ same ∙ rw now at)

    above : (w : Bytes) (k : ℕ) → k < length xs → get_or xs k w ≡ w → i < k → slice_cmp nat_cmp (shown v) (shown w) ≡ Less
    above w k le at after =
        let one : v ≡ get_or xs i w = here ∙ get_or_default xs i v w lt in
        let pair = rising_pairs xs i k w rising after le in
        rw (one) (rw at at pair)

    none_below : (other : List ℕ) → (w : Bytes) × Contains xs w × (shown w ≡ other) → (Contains ys other → ⊥) → is_lt (slice_cmp nat_cmp other (shown v)) ≡ false
    none_below other (w, (k, le, at), same) lacks =
        elim (cases_lt k i) [
          | inl earlier ↦ absurd (lacks (rw (at, same) at (before k w earlier)))
          | inr later ↦ elim (eq-or-lt_of_le later) [
            | inl now ↦ rw (← same, is_itself w k at now, tied_itself nat_list_cmp_total (shown v)) refl
            | inr after ↦ rw (← same) (not_below (shown v) (shown w) (above w k le at after))
          ]
        ]

pub one_more_held : (xs : List Bytes) (ys : List (List ℕ)) (i : ℕ) (v : Bytes) → i < length xs → v ≡ get_or xs i v → ((k : ℕ) (d : Bytes) → k < i → Contains ys (shown (get_or xs k d))) → Contains ys (shown v)
    → (k : ℕ) (d : Bytes) → k < i + 1 → Contains ys (shown (get_or xs k d))
one_more_held xs ys i v lt here before held k d le =
    elim (eq-or-lt_of_le (upto_here k i le)) [
      | inl now ↦ subst (λ (w : Bytes). Contains ys (shown w)) (here ∙ get_or_default xs i v d lt ∙ ap (λ (n : ℕ). get_or xs n d) (sym now)) held
      | inr earlier ↦ before k d earlier
    ]
  where
    upto_here : (k i : ℕ) → k < i + 1 → k ≤ i
    upto_here k i h = omega arith

each_shown : (xs : List Bytes) (P : List ℕ → Type 0) → ((k : ℕ) (d : Bytes) → k < length xs → P (shown (get_or xs k d))) → All P (map shown xs)
each_shown [] P h = All-nil P
each_shown (x ∷ xs) P h = All-cons P (shown x) (map shown xs) (h 0 x (omega arith)) (each_shown xs P (λ k d lt. h (suc k) d (omega arith)))

pub all_held : (xs : List Bytes) (ys : List (List ℕ)) (n : ℕ) → length xs ≤ n → ((k : ℕ) (d : Bytes) → k < n → Contains ys (shown (get_or xs k d))) → All (Contains ys) (byte_lists xs)
all_held xs ys n le h = each_shown xs (Contains ys) (λ k d lt. h k d (omega arith))

-- Where one is missing, not all are held.
pub not_all_held : (xs ys : List (List ℕ)) (t : List ℕ) → IsFirstMissing xs ys t → All (Contains ys) xs → ⊥
not_all_held xs ys t first all =
    let (k, lt, is) = first.held in
    first.missing (rw is at (all k t lt))

-- Lists of equal byte strings are seen as one list.
pub cloned_lists : (R : Bytes → Bytes → Type 0) (xs ys : List Bytes) → AllZip R xs ys → ((v w : Bytes) → R v w → shown w ≡ shown v) → byte_lists ys ≡ byte_lists xs
cloned_lists R [] [] h same = refl
cloned_lists R [] (y ∷ ys) h same = absurd h
cloned_lists R (x ∷ xs) [] h same = absurd h
cloned_lists R (x ∷ xs) (y ∷ ys) h same =
    let head = same x y h.0 in
    let tail = cloned_lists R xs ys h.1 same in
    cc

-- What the loop finds is what the function finds.
pub found_first : (xs : List Bytes) (ys : List (List ℕ)) (k : ℕ) (v : Bytes) → k < length xs → v ≡ get_or xs k v → ((j : ℕ) (d : Bytes) → j < k → Contains ys (shown (get_or xs j d))) → (Contains ys (shown v) → ⊥)
    → first_missing (byte_lists xs) ys ≡ Some (shown v)
found_first [] ys k v lt here before missing = absurd (omega arith)
found_first (x ∷ xs) ys zero v lt here before missing = rw (here, has_not ys (shown x) (rw here at missing)) refl
found_first (x ∷ xs) ys (suc k) v lt here before missing =
    rw ((has_is ys (shown x)).1 (before 0 x (omega arith))) (found_first xs ys k v (omega arith) here (λ j d le. before (suc j) d (omega arith)) missing)

pub none_found : (xs : List Bytes) (ys : List (List ℕ)) (n : ℕ) → length xs ≤ n → ((k : ℕ) (d : Bytes) → k < n → Contains ys (shown (get_or xs k d))) → first_missing (byte_lists xs) ys ≡ None
none_found [] ys n le h = refl
none_found (x ∷ xs) ys zero le h = absurd (omega arith)
none_found (x ∷ xs) ys (suc n) le h = rw ((has_is ys (shown x)).1 (h 0 x (omega arith))) (none_found xs ys n (omega arith) (λ k d lt. h (suc k) d (omega arith)))
