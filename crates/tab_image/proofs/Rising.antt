-- The test of neighbours says of a list that each of it is below all behind it.
use Rattle.std.proofs.Common.{◌≡◌, ℕ, zero, suc, ◌+◌, ◌<◌, ◌≤◌, Bool, true, false, List, [], ◌∷◌, length, get_or, map, refl, sym, ap, subst, ◌∙◌, arith}
use Rattle.std.specs.Prelude.{◌&&◌}
use Rattle.std.specs.Bool.{Decides}
use Rattle.std.specs.List.{AllByRecursion, IsAllAdjacentAnswer}
use Rattle.std.specs.List.Sorted.{IsStrictlySortedBy}
use Rattle.std.specs.declared.cmp.Ordering.{Ordering}
use Rattle.std.specs.declared.cmp.Ordering.TheVariants.{Less, Equal, Greater}
use Rattle.std.specs.Cmp.{IsTotalOrder}
use Rattle.std.specs.Cmp.Lexicographic.{nat_list_cmp_total}
use Rattle.std.specs.Ordering.{is_lt}
use Rattle.std.proofs.lemmas.Bool.Decides.{Decides-and}
use Rattle.tab_key.specs.Bytes.{bytes_cmp}
use Rattle.tab_label.specs.Sets.{IsRising}
use Rattle.tab_image.specs.Conditions.{rises}

pub itself : (b : Bool) → Decides b (b ≡ true)
itself b = (λ e. e, λ e. e)

pub less_decides : (o : Ordering) → Decides (is_lt o) (o ≡ Less)
less_decides Less = (λ e. refl, λ e. refl)
less_decides Equal = (λ e. absurd cc, λ e. absurd cc)
less_decides Greater = (λ e. absurd cc, λ e. absurd cc)

-- what is below the second is below all behind it
module _ {A : Type 0} (cmp : A → A → Ordering) (total : IsTotalOrder cmp) where
  below_all : (x y : A) (ys : List A) → cmp x y ≡ Less → AllByRecursion (λ z. cmp y z ≡ Less) ys → AllByRecursion (λ z. cmp x z ≡ Less) ys
  below_all x y [] lt h = tt
  below_all x y (z ∷ zs) lt h = (total.trans x y z lt h.0, below_all x y zs lt h.1)

  rises_sorted : (xs : List A) → rises cmp xs ≡ true → IsStrictlySortedBy cmp xs
  unfolding IsStrictlySortedBy
  rises_sorted [] e = tt
  rises_sorted (x ∷ []) e = (tt, tt)
  rises_sorted (x ∷ y ∷ ys) e =
      let both = (Decides-and (is_lt (cmp x y)) (rises cmp (y ∷ ys)) (less_decides (cmp x y)) (itself (rises cmp (y ∷ ys)))).0 e in
      let rest = rises_sorted (y ∷ ys) both.1 in
      ((both.0, below_all x y ys both.0 rest.0), rest)

  sorted_rises : (xs : List A) → IsStrictlySortedBy cmp xs → rises cmp xs ≡ true
  unfolding IsStrictlySortedBy
  sorted_rises [] h = refl
  sorted_rises (x ∷ []) h = refl
  sorted_rises (x ∷ y ∷ ys) h = (Decides-and (is_lt (cmp x y)) (rises cmp (y ∷ ys)) (less_decides (cmp x y)) (itself (rises cmp (y ∷ ys)))).1 (h.0.0, sorted_rises (y ∷ ys) h.1)

  pub rises_decides : (xs : List A) → Decides (rises cmp xs) (IsStrictlySortedBy cmp xs)
  rises_decides xs = (rises_sorted xs, sorted_rises xs)

pub bytes_rise : (xs : List (List ℕ)) → Decides (rises bytes_cmp xs) (IsRising xs)
bytes_rise xs = rises_decides bytes_cmp nat_list_cmp_total xs

-- ---- what a test of neighbours tells
module _ {A : Type 0} (cmp : A → A → Ordering) where
  rises_all : (xs : List A) → ((k : ℕ) (d : A) → k + 1 < length xs → true ≡ is_lt (cmp (get_or xs k d) (get_or xs (k + 1) d))) → true ≡ rises cmp xs
  rises_all [] h = refl
  rises_all (x ∷ []) h = refl
  rises_all (x ∷ y ∷ ys) h =
      let first : true ≡ is_lt (cmp x y) = h 0 x (omega arith) in
      let rest : true ≡ rises cmp (y ∷ ys) = rises_all (y ∷ ys) (λ k d lt. let shift : suc k + 1 ≡ suc (k + 1) = omega arith in subst (λ (m : ℕ). true ≡ is_lt (cmp (get_or (y ∷ ys) k d) (get_or (x ∷ y ∷ ys) m d))) shift (h (suc k) d (omega (arith, lt)))) in
      λ i. first i && rest i

  pub short_rises : (xs : List A) → length xs ≤ 1 → true ≡ rises cmp xs
  short_rises [] few = refl
  short_rises (x ∷ []) few = refl
  short_rises (x ∷ y ∷ ys) few = absurd (omega (arith, few))

  rises_not : (xs : List A) (k : ℕ) → k + 1 < length xs → ((d : A) → false ≡ is_lt (cmp (get_or xs k d) (get_or xs (k + 1) d))) → false ≡ rises cmp xs
  rises_not [] k lt h = absurd (omega (arith, lt))
  rises_not (x ∷ []) k lt h = absurd (omega (arith, lt))
  rises_not (x ∷ y ∷ ys) zero lt h = ap (λ b. b && rises cmp (y ∷ ys)) (h x)
  rises_not (x ∷ y ∷ ys) (suc k) lt h =
      let shift : suc k + 1 ≡ suc (k + 1) = omega arith in
      sym (and_false (is_lt (cmp x y))) ∙ ap (λ b. is_lt (cmp x y) && b) (rises_not (y ∷ ys) k (omega (arith, lt)) (λ d. subst (λ (m : ℕ). false ≡ is_lt (cmp (get_or (y ∷ ys) k d) (get_or (x ∷ y ∷ ys) m d))) shift (h d)))
    where
      and_false : (b : Bool) → (b && false) ≡ false
      and_false true = refl
      and_false false = refl

  pub rises_answer : (xs : List A) (r : Bool) → IsAllAdjacentAnswer (λ x y b. b ≡ is_lt (cmp x y)) xs r → r ≡ rises cmp xs
  rises_answer xs true h = rises_all xs h
  rises_answer xs false h = rises_not xs h.0 h.1 h.2

-- of keys
pub rises_by : {A K : Type 0} (cmp : K → K → Ordering) (key : A → K) (xs : List A) → rises (λ x y. cmp (key x) (key y)) xs ≡ rises cmp (map key xs)
rises_by cmp key [] = refl
rises_by cmp key (x ∷ []) = refl
rises_by cmp key (x ∷ y ∷ ys) = ap (λ b. is_lt (cmp (key x) (key y)) && b) (rises_by cmp key (y ∷ ys))
