-- A search by halves among things that rise by name tells whether one of them has a name.
use Rattle.std.proofs.Common.{◌≡◌, ℕ, suc, zero, ◌+◌, ◌<◌, inl, inr, Bool, true, false, List, [], ◌∷◌, length, get_or, map, refl, sym, arith, Result, Ok, Err}
use Rattle.std.specs.Prelude.{◌||◌, is_ok, bytes_eq}
use Rattle.std.specs.declared.cmp.Ordering.TheVariants.{Less, Equal}
use Rattle.std.specs.List.{AllByRecursion, list_any}
use Rattle.std.specs.List.Sorted.{IsStrictlySortedBy, IsSortedBy, IsBinarySearchResult, IsSearchInRange}
use Rattle.std.specs.Ordering.{is_lt, nat_cmp}
use Rattle.std.specs.Cmp.Lexicographic.{slice_cmp}
use Rattle.std.specs.FinMap.{slice_cmp-IsAntisymmetric, nat_cmp-IsAntisymmetric}
use Rattle.std.proofs.lemmas.Cmp.{nat_list_cmp_total, tied_itself}
use Rattle.std.proofs.lemmas.Bool.{cases_lt}
use Rattle.std.proofs.lemmas.List.Folds.{Any-from_list_any}
use Rattle.std.proofs.lemmas.List.Sorted.{searchable_from_sorted}
use Rattle.std.proofs.lemmas.Slice.Eq.{bytes_eq-Decides}
use Rattle.tab_label.specs.Sets.{IsRising}

same_bytes : (x y : List ℕ) → slice_cmp nat_cmp x y ≡ Equal → x ≡ y
same_bytes = slice_cmp-IsAntisymmetric nat_cmp-IsAntisymmetric

-- of the two, the later isn't below
not_below : (x y : List ℕ) → slice_cmp nat_cmp x y ≡ Less → is_lt (slice_cmp nat_cmp y x) ≡ false
not_below x y h = rw (nat_list_cmp_total.antisymm y x, h) refl

module _ {A : Type 0} (name : A → List ℕ) where
  below_each : (x : List ℕ) (xs : List A) (k : ℕ) (d : A) → AllByRecursion (λ y. slice_cmp nat_cmp x y ≡ Less) (map name xs) → k < length xs → slice_cmp nat_cmp x (name (get_or xs k d)) ≡ Less
  below_each x [] k d h lt = absurd (omega arith)
  below_each x (y ∷ ys) zero d h lt = h.0
  below_each x (y ∷ ys) (suc k) d h lt = below_each x ys k d h.1 (omega arith)

  pairs : (xs : List A) (i k : ℕ) (d : A) → IsRising (map name xs) → i < k → k < length xs → slice_cmp nat_cmp (name (get_or xs i d)) (name (get_or xs k d)) ≡ Less
  unfolding IsStrictlySortedBy
  pairs [] i k d h lt le = absurd (omega arith)
  pairs (x ∷ xs) zero zero d h lt le = absurd (omega arith)
  pairs (x ∷ xs) zero (suc k) d h lt le = below_each (name x) xs k d h.0 (omega arith)
  pairs (x ∷ xs) (suc i) zero d h lt le = absurd (omega arith)
  pairs (x ∷ xs) (suc i) (suc k) d h lt le = pairs xs i k d h.1 (omega arith) (omega arith)

  sorted_from : (xs : List A) → IsRising (map name xs) → IsSortedBy (λ a b. is_lt (slice_cmp nat_cmp (name a) (name b))) xs
  sorted_from xs h k d le lt = not_below (name (get_or xs k d)) (name (get_or xs (k + 1) d)) (pairs xs k (k + 1) d h (omega arith) lt)

  at_name : (xs : List A) (t : List ℕ) (k : ℕ) → k < length xs → ((d : A) → name (get_or xs k d) ≡ t) → list_any (λ x. bytes_eq (name x) t) xs ≡ true
  at_name [] t k lt is = absurd (omega arith)
  at_name (x ∷ xs) t zero lt is = let same = (bytes_eq-Decides (name x) t).1 (is x) in rw same refl
  at_name (x ∷ xs) t (suc k) lt is = or_true (bytes_eq (name x) t) (list_any (λ y. bytes_eq (name y) t) xs) (at_name xs t k (omega arith) is)
    where
      or_true : (a b : Bool) → b ≡ true → (a || b) ≡ true
      or_true true b e = refl
      or_true false b e = e

  -- what the search tells is whether one has the name
  pub found : (xs : List A) (t : List ℕ) (r : Result ℕ ℕ) → IsRising (map name xs) → IsSearchInRange r (length xs) → IsBinarySearchResult (λ x. slice_cmp nat_cmp (name x) t) xs r → is_ok r ≡ list_any (λ x. bytes_eq (name x) t) xs
  found xs t (Ok at) rising within equal = sym (at_name xs t at within (λ d. same_bytes (name (get_or xs at d)) t (equal d)))
  found xs t (Err at) rising within parted = go (list_any (λ x. bytes_eq (name x) t) xs) refl
    where
      none : list_any (λ x. bytes_eq (name x) t) xs ≡ true → ⊥
      none e =
          let (i, v, le, here, tied) = Any-from_list_any (λ x. bytes_eq (name x) t) xs e in
          let same : name v ≡ t = (bytes_eq-Decides (name v) t).0 tied in
          let parts = parted (searchable_from_sorted nat_list_cmp_total name xs t (sorted_from xs rising)) in
          let itself : slice_cmp nat_cmp (name (get_or xs i v)) t ≡ Equal = rw (here, same) (tied_itself nat_list_cmp_total t) in
          elim (cases_lt i at) [
            | inl before ↦ let less = parts.0 i v (omega arith) before in cc
            | inr after ↦ let greater = parts.1 i v after le in cc
          ]

      go : (b : Bool) → list_any (λ x. bytes_eq (name x) t) xs ≡ b → false ≡ list_any (λ x. bytes_eq (name x) t) xs
      go true e = absurd (none e)
      go false e = sym e
