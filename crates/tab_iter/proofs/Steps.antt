-- A list rises where each record stands before the next.
use Rattle.std.proofs.Common.{◌≡◌, ◌⊎◌, inl, inr, ℕ, zero, suc, ◌+◌, ◌-◌, ◌<◌, List, [], ◌∷◌, true, false, refl, sym, ◌∙◌, ap, subst, length, arith, below_more}
use Rattle.std.specs.Prelude.{slice_index_or}
use Rattle.std.specs.Ordering.{is_lt}
use Rattle.std.specs.declared.cmp.Ordering.TheVariants.{Less}
use mathlib.Core.Bool.{true≢false}
use Rattle.tab_key.specs.Order.{record_cmp, stands_before}
use Rattle.tab_key.specs.Records.{Record}
use Rattle.tab_key.proofs.Order.{record_cmp_total}
use Rattle.tab_key.specs.Sorted.{IsIn}
use Rattle.tab_key.proofs.Rising.{is_less}
use Rattle.tab_iter.specs.Lists.{IsRising}
use Rattle.tab_iter.proofs.ListLaws.{rises_none, rises_more, first_less, later_rises}

-- the record at this place comes after the one before it
abbrev pub IsStep : List Record → ℕ → Type 0
IsStep xs j = (d : Record) → stands_before (slice_index_or xs (j - 1) d) (slice_index_or xs j d) ≡ true

any_default : (xs : List Record) (k : ℕ) (d e : Record) → k < length xs → slice_index_or xs k d ≡ slice_index_or xs k e
any_default [] k d e lt = absurd (omega (arith, lt))
any_default (x ∷ xs) zero d e lt = refl
any_default (x ∷ xs) (suc k) d e lt = any_default xs k d e (omega (arith, lt))

-- one step more
pub step_more : (xs : List Record) (i : ℕ) (r s : Record) → i < length xs → ((j : ℕ) → j < i → 0 < j → IsStep xs j) → r ≡ slice_index_or xs (i - 1) r → s ≡ slice_index_or xs i s → stands_before r s ≡ true → (j : ℕ) → j < i + 1 → 0 < j → IsStep xs j
step_more xs i r s lt below front back e = below_more (λ j. 0 < j → IsStep xs j) i below (λ more d.
    (λ k. stands_before ((any_default xs (i - 1) d r (omega arith) ∙ sym front) k) ((any_default xs i d s lt ∙ sym back) k)) ∙ e)

by_steps : (xs : List Record) → ((k : ℕ) → suc k < length xs → (d : Record) → stands_before (slice_index_or xs k d) (slice_index_or xs (suc k) d) ≡ true) → IsRising xs
by_steps [] f = rises_none
by_steps (x ∷ []) f = rises_more x [] (λ u h. absurd h) rises_none
by_steps (x ∷ y ∷ ys) f = go (by_steps (y ∷ ys) (λ k lt d. f (suc k) (omega (arith, lt)) d))
  where
    less : record_cmp x y ≡ Less
    less = is_less (record_cmp x y) (f 0 (omega arith) x)

    far : IsRising (y ∷ ys) → (u : Record) → (y ≡ u) ⊎ IsIn ys u → record_cmp x u ≡ Less
    far up u (inl e) = subst (λ v. record_cmp x v ≡ Less) e less
    far up u (inr h) = record_cmp_total.trans x y u less (first_less y ys up u h)

    go : IsRising (y ∷ ys) → IsRising (x ∷ y ∷ ys)
    go up = rises_more x (y ∷ ys) (far up) up

pub steps_rise : (xs : List Record) → ((j : ℕ) → j < length xs → 0 < j → IsStep xs j) → IsRising xs
steps_rise xs f = by_steps xs (λ k lt d. let back : suc k - 1 ≡ k = omega arith in subst (λ n. stands_before (slice_index_or xs n d) (slice_index_or xs (suc k) d) ≡ true) back (f (suc k) lt (omega arith) d))

rising_steps : (xs : List Record) → IsRising xs → (k : ℕ) → suc k < length xs → (d : Record) → stands_before (slice_index_or xs k d) (slice_index_or xs (suc k) d) ≡ true
rising_steps [] up k lt d = absurd (omega (arith, lt))
rising_steps (x ∷ []) up k lt d = absurd (omega (arith, lt))
rising_steps (x ∷ y ∷ ys) up zero lt d = ap is_lt (first_less x (y ∷ ys) up y (inl refl))
rising_steps (x ∷ y ∷ ys) up (suc k) lt d = rising_steps (y ∷ ys) (later_rises x (y ∷ ys) up) k (omega (arith, lt)) d

-- a pair out of order
pub step_down : (xs : List Record) (i : ℕ) (r s : Record) → i < length xs → 0 < i → r ≡ slice_index_or xs (i - 1) r → s ≡ slice_index_or xs i s → stands_before r s ≡ false → IsRising xs → ⊥
step_down xs i r s lt more front back e up =
    let there : suc (i - 1) ≡ i = omega (arith, more) in
    let is : stands_before (slice_index_or xs (i - 1) r) (slice_index_or xs (suc (i - 1)) r) ≡ true = rising_steps xs up (i - 1) (omega (arith, there, lt)) r in
    true≢false (sym is ∙ (λ k. stands_before (sym front k) ((ap (λ n. slice_index_or xs n r) there ∙ any_default xs i r s lt ∙ sym back) k)) ∙ e)
