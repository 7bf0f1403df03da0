-- The plan takes the greatest number that fits, and one pass over the sizes finds it.
use Rattle.std.proofs.Common.{◌≡◌, ℕ, zero, suc, ◌+◌, ◌*◌, ◌<◌, ◌≤◌, List, [], ◌∷◌, ◌++◌, Bool, true, false, ◌&&◌, cond, refl, sym, ◌∙◌, ap, subst, length, take, get_or, max, arith}
use Rattle.std.specs.Prelude.{Some, nat_le, sum}
use Rattle.std.specs.List.Sorted.{IsNonDecreasing}
use Rattle.std.proofs.lemmas.List.{take_more}
use Rattle.std.proofs.lemmas.List.Sums.{sum_by_more}
use Rattle.std.specs.Cmp.{first_so, second_so}
use Rattle.std.proofs.lemmas.Bool.Decides.{nat_tests}
use Rattle.tab_cells.proofs.Lists.{by_bool}
use Rattle.tab_compact.specs.Plans.{largest, fits, greatest, plan, IsPlan, PlanIsGreatest}

-- none of at least 2 above n fits
abbrev NoneAbove : List ℕ → ℕ → Type 0
NoneAbove sizes n = (k : ℕ) → 2 ≤ k → suc n ≤ k → k ≤ length sizes → fits sizes k ≡ false

at_or_above : (n k : ℕ) {G : Type 0} → suc n ≤ k → (k ≡ suc n → G) → (suc (suc n) ≤ k → G) → G
at_or_above n k le f g = by_bool (nat_le k (suc n)) (λ t. f (grind (arith, nat_tests))) (λ e. g (grind (arith, nat_tests)))

two_up : (n : ℕ) → 2 ≤ suc n → nat_le 1 n ≡ true
two_up n le = grind (arith, nat_tests)

up_two : (n : ℕ) → nat_le 1 n ≡ true → 2 ≤ suc n
up_two n e = grind (arith, nat_tests)

other_fails : (a b : Bool) → (a && b) ≡ false → a ≡ true → b ≡ false
other_fails true b e t = e
other_fails false b e t = absurd (cc)

-- the greatest up to n is the plan, where none above it fits
from_top : (sizes : List ℕ) (n : ℕ) → n ≤ length sizes → NoneAbove sizes n → IsPlan sizes (greatest sizes n)
from_top sizes zero le none = λ k lo hi. none k lo (omega (arith, lo)) hi
from_top sizes (suc n) le none = go (nat_le 1 n && fits sizes (suc n)) refl (from_top sizes n (omega (arith, le)))
  where
    go : (v : Bool) → (nat_le 1 n && fits sizes (suc n)) ≡ v → (NoneAbove sizes n → IsPlan sizes (greatest sizes n)) → IsPlan sizes (cond v (Some (suc n)) (greatest sizes n))
    go true e ih =
        let two : 2 ≤ suc n = up_two n (first_so (nat_le 1 n) (fits sizes (suc n)) e) in
        (two, le, second_so (nat_le 1 n) (fits sizes (suc n)) e, λ k lo hi. none k (omega (arith, two, lo)) lo hi)
    go false e ih = ih (λ k two lo hi. at_or_above n k lo
        (λ is. subst (λ j. fits sizes j ≡ false) (sym is) (other_fails (nat_le 1 n) (fits sizes (suc n)) e (two_up n (subst (λ j. 2 ≤ j) is two))))
        (λ up. none k two up hi))

pub plan_is_greatest : PlanIsGreatest
unfolding plan
plan_is_greatest sizes = from_top sizes (length sizes) (omega arith) (λ k two lo hi. absurd (omega (arith, lo, hi)))

-- ---- in one pass
largest_append : (xs : List ℕ) (y : ℕ) → largest (xs ++ y ∷ []) ≡ max (largest xs) y
largest_append [] y = omega arith
largest_append (x ∷ xs) y = omega (arith, largest_append xs y)

largest_more : (xs : List ℕ) (i d : ℕ) → i < length xs → largest (take (i + 1) xs) ≡ max (largest (take i xs)) (get_or xs i d)
largest_more xs i d lt = ap largest (take_more xs i d lt) ∙ largest_append (take i xs) (get_or xs i d)

-- where sizes rise, the next one isn't below those before
largest_before : (xs : List ℕ) → IsNonDecreasing xs → (i d : ℕ) → i < length xs → largest (take i xs) ≤ get_or xs i d
largest_before xs up zero d lt = omega arith
largest_before xs up (suc i) d lt =
    let more : largest (take (i + 1) xs) ≡ max (largest (take i xs)) (get_or xs i d) = largest_more xs i d (omega (arith, lt)) in
    let front : largest (take i xs) ≤ get_or xs i d = largest_before xs up i d (omega (arith, lt)) in
    let next : get_or xs i d ≤ get_or xs (suc i) d = up i (suc i) d (omega arith) lt in
    let same : suc i ≡ i + 1 = omega arith in
    rw same (omega (arith, more, front, subst (λ j. get_or xs i d ≤ get_or xs j d) same next))

-- what the next size decides
pub fits_more : (xs : List ℕ) → IsNonDecreasing xs → (i d s : ℕ) → i < length xs → s ≡ sum (take i xs) + get_or xs i d → nat_le (3 * get_or xs i d) s ≡ fits xs (i + 1)
fits_more xs up i d s lt e =
    let most : largest (take (i + 1) xs) ≡ get_or xs i d = omega (arith, largest_more xs i d lt, largest_before xs up i d lt) in
    let all : sum (take (i + 1) xs) ≡ s = sum_by_more (λ x. x) xs i d lt ∙ sym e in
    λ j. nat_le (3 * sym most j) (sym all j)

pub greatest_more : (xs : List ℕ) (i : ℕ) → greatest xs (i + 1) ≡ cond (nat_le 1 i && fits xs (i + 1)) (Some (i + 1)) (greatest xs i)
greatest_more xs i = let same : suc i ≡ i + 1 = omega arith in subst (λ j. greatest xs j ≡ cond (nat_le 1 i && fits xs j) (Some j) (greatest xs i)) same refl
