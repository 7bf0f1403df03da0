-- The tables that are larger than those that a partial compaction takes.
use Rattle.std.proofs.Common.{◌≡◌, ℕ, ◌≤◌, ◌<◌, ◌+◌, List, [], ◌∷◌, ◌++◌, get_or, max, true, false, ◌==◌, not, refl, sym, ◌∙◌, ap, subst, length, take, arith}
use Rattle.std.specs.Prelude.{filter, nat_le, nat_lt, Option, Some, None}
use Rattle.std.proofs.lemmas.Bool.Decides.{nat_tests}
use Rattle.std.proofs.lemmas.List.{length-map, length-take-le, take-map, take_more, map-append}
use mathlib.Core.Bool.{true≢false}
use Rattle.tab_version.specs.Sources.{Sorted}
use Rattle.tab_compact.specs.Plans.{largest, IsPlan}
use Rattle.tab_compact.specs.Merges.{by_size, sizes_of, taken}
use Rattle.tab_compact.proofs.Plans.{plan_is_greatest}
use Rattle.tab_tablet.specs.Spared.{plan_of, larger_than}
use Rattle.tab_tablet.proofs.Captures.{largest_more}

-- a test for more is the turned test for no more
pub above : (limit size : ℕ) → nat_lt limit size ≡ not (nat_le size limit)
above limit size = grind (arith, nat_tests)

empty_is : (n : ℕ) → 2 ≤ n → (n == 0) ≡ true → 1 ≤ 0
empty_is n le e = absurd (true≢false (sym e ∙ is_some n le))
  where
    is_some : (k : ℕ) → 2 ≤ k → (k == 0) ≡ false
    is_some k more = grind (arith, nat_tests)

module _ (ts inputs : List Sorted) where
  -- a plan takes at least two tables
  two_taken : (k : ℕ) → plan_of ts ≡ Some k → inputs ≡ take k (by_size ts) → 2 ≤ length inputs
  two_taken k e is =
      let greatest : IsPlan (sizes_of (by_size ts)) (Some k) = subst (IsPlan (sizes_of (by_size ts))) e (plan_is_greatest (sizes_of (by_size ts))) in
      let all : length (sizes_of (by_size ts)) ≡ length (by_size ts) = length-map (by_size ts) (λ (t : Sorted). t.size) in
      let count : length inputs ≡ k = ap length is ∙ length-take-le k (by_size ts) (omega (arith, greatest.1, all)) in
      omega (arith, greatest.0, count)

  -- without a plan nothing is taken, and all stay
  pub all_stay : inputs ≡ taken (plan_of ts) (by_size ts) → (length inputs == 0) ≡ true → ts ≡ larger_than (plan_of ts) ts
  all_stay is e = go (plan_of ts) refl is
    where
      go : (o : Option ℕ) → plan_of ts ≡ o → inputs ≡ taken o (by_size ts) → ts ≡ larger_than o ts
      go None p q = refl
      go (Some k) p q = absurd (omega (arith, empty_is (length inputs) (two_taken k p q) e))

  -- with one those stay that are larger than the largest taken
  pub larger_stay : inputs ≡ taken (plan_of ts) (by_size ts) → (length inputs == 0) ≡ false → filter (λ (t : Sorted). not (nat_le t.size (largest (sizes_of inputs)))) ts ≡ larger_than (plan_of ts) ts
  larger_stay is e = go (plan_of ts) refl is
    where
      go : (o : Option ℕ) → plan_of ts ≡ o → inputs ≡ taken o (by_size ts) → filter (λ (t : Sorted). not (nat_le t.size (largest (sizes_of inputs)))) ts ≡ larger_than o ts
      go None p q = absurd (true≢false (ap (λ (l : List Sorted). length l == 0) (sym q) ∙ e))
      go (Some k) p q = ap (λ n. filter (λ (t : Sorted). not (nat_le t.size n)) ts) (ap (λ l. largest (sizes_of l)) q ∙ ap largest (sym (take-map (λ (t : Sorted). t.size) k (by_size ts))))

-- the largest of the first tables, and the next
pub largest_next : (ts : List Sorted) (i : ℕ) (t : Sorted) → i < length ts → t ≡ get_or ts i t → largest (sizes_of (take (i + 1) ts)) ≡ max (largest (sizes_of (take i ts))) t.size
largest_next ts i t lt is =
    ap (λ l. largest (sizes_of l)) (take_more ts i t lt ∙ ap (λ x. take i ts ++ x ∷ []) (sym is))
    ∙ ap largest (map-append (λ (x : Sorted). x.size) (take i ts) (t ∷ []))
    ∙ largest_more (sizes_of (take i ts)) t.size
