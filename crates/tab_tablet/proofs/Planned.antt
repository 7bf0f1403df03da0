-- A partial compaction would merge some tables where those up to the size of one of them fit.
use Rattle.std.proofs.Common.{◌≡◌, ℕ, zero, suc, ◌+◌, ◌*◌, ◌≤◌, List, [], ◌∷◌, Bool, true, false, ◌&&◌, ◌||◌, cond, refl, sym, ◌∙◌, ap, subst, length, take, max, arith}
use Rattle.std.specs.Prelude.{Option, Some, None, is_some, nat_le, nat_lt, sum}
use Rattle.std.specs.Cmp.{first_so, second_so}
use Rattle.std.specs.List.{AllByRecursion, list_any, sum_by}
use Rattle.std.proofs.lemmas.Bool.Decides.{nat_tests}
use Rattle.std.proofs.lemmas.List.{length-map}
use Rattle.std.proofs.lemmas.List.Sums.{sum_by-cons}
use mathlib.Core.Bool.{true≢false}
use Rattle.tab_cells.proofs.Lists.{by_bool}
use Rattle.tab_version.specs.Sources.{Sorted}
use Rattle.tab_compact.specs.Plans.{largest, fits, plan, IsPlan}
use Rattle.tab_compact.specs.Merges.{put_by_size, by_size, sizes_of}
use Rattle.tab_compact.proofs.Plans.{plan_is_greatest}
use Rattle.tab_tablet.specs.Due.{count_within, size_within, fit_within}
use Rattle.tab_tablet.proofs.Captures.{Rises, rises_by_size}

-- ---- in whichever order
put_sum : (f : Sorted → ℕ) (t : Sorted) (ss : List Sorted) → sum_by f (put_by_size t ss) ≡ f t + sum_by f ss
put_sum f t [] = sum_by-cons f t []
put_sum f t (s ∷ ss) = go (nat_lt s.size t.size) (put_sum f t ss)
  where
    go : (v : Bool) → sum_by f (put_by_size t ss) ≡ f t + sum_by f ss → sum_by f (cond v (s ∷ put_by_size t ss) (t ∷ s ∷ ss)) ≡ f t + sum_by f (s ∷ ss)
    go true ih = omega (arith, ih, sum_by-cons f s (put_by_size t ss), sum_by-cons f s ss)
    go false ih = sum_by-cons f t (s ∷ ss)

sorted_sum : (f : Sorted → ℕ) (ts : List Sorted) → sum_by f (by_size ts) ≡ sum_by f ts
sorted_sum f [] = refl
sorted_sum f (t ∷ ts) = omega (arith, put_sum f t (by_size ts), sorted_sum f ts, sum_by-cons f t ts)

either_first : (a b c : Bool) → (a || (b || c)) ≡ (b || (a || c))
either_first true true c = refl
either_first true false c = refl
either_first false true c = refl
either_first false false c = refl

put_any : (p : Sorted → Bool) (t : Sorted) (ss : List Sorted) → list_any p (put_by_size t ss) ≡ (p t || list_any p ss)
put_any p t [] = refl
put_any p t (s ∷ ss) = go (nat_lt s.size t.size) (put_any p t ss)
  where
    go : (v : Bool) → list_any p (put_by_size t ss) ≡ (p t || list_any p ss) → list_any p (cond v (s ∷ put_by_size t ss) (t ∷ s ∷ ss)) ≡ (p t || (p s || list_any p ss))
    go true ih = ap (λ v. p s || v) ih ∙ either_first (p s) (p t) (list_any p ss)
    go false ih = refl

sorted_any : (p : Sorted → Bool) (ts : List Sorted) → list_any p (by_size ts) ≡ list_any p ts
sorted_any p [] = refl
sorted_any p (t ∷ ts) = put_any p t (by_size ts) ∙ ap (λ v. p t || v) (sorted_any p ts)

-- the same test of the sorted tables
fit_sorted : (limit : ℕ) (ts : List Sorted) → fit_within limit (by_size ts) ≡ fit_within limit ts
fit_sorted limit ts = λ i. nat_le 2 (sorted_sum (λ (t : Sorted). cond (nat_le t.size limit) 1 0) ts i) && nat_le (3 * limit) (sorted_sum (λ (t : Sorted). cond (nat_le t.size limit) t.size 0) ts i)

-- ---- the tables up to a size
-- one, if it is among them
abbrev counted : ℕ → Sorted → ℕ
counted limit t = cond (nat_le t.size limit) 1 0

counts : (limit : ℕ) (t : Sorted) (ts : List Sorted) → count_within limit (t ∷ ts) ≡ counted limit t + count_within limit ts
counts limit t ts = sum_by-cons (counted limit) t ts

sums : (limit : ℕ) (t : Sorted) (ts : List Sorted) → size_within limit (t ∷ ts) ≡ cond (nat_le t.size limit) t.size 0 + size_within limit ts
sums limit t ts = sum_by-cons (λ (x : Sorted). cond (nat_le x.size limit) x.size 0) t ts

is_within : (n limit : ℕ) → n ≤ limit → nat_le n limit ≡ true
is_within n limit le = grind (arith, nat_tests)

-- the first k are among them, if none of these is larger
record AreFirst (k limit : ℕ) (ts : List Sorted) : Type 0 where
  count : k ≤ count_within limit ts
  size : sum (take k (sizes_of ts)) ≤ size_within limit ts

first_within : (k limit : ℕ) (ts : List Sorted) → k ≤ length ts → largest (take k (sizes_of ts)) ≤ limit → AreFirst k limit ts
first_within zero limit ts le most = record { count = omega arith; size = omega arith }
first_within (suc k) limit [] le most = absurd (omega (arith, le))
first_within (suc k) limit (t ∷ ts) le most =
    let small : nat_le t.size limit ≡ true = is_within t.size limit (omega (arith, most)) in
    let one : counted limit t ≡ 1 = ap (λ v. cond {A = ℕ} v 1 0) small in
    let its : cond (nat_le t.size limit) t.size 0 ≡ t.size = ap (λ v. cond v t.size 0) small in
    let later : AreFirst k limit ts = first_within k limit ts (omega (arith, le)) (omega (arith, most)) in
    record {
      count = omega (arith, later.count, counts limit t ts, one);
      size = omega (arith, later.size, sums limit t ts, its, sum_by-cons (λ x. x) t.size (take k (sizes_of ts)));
    }

-- one of the first k has the size of the largest of them
some_largest : (p : ℕ → Bool) (k : ℕ) (ts : List Sorted) → 1 ≤ k → k ≤ length ts → p (largest (take k (sizes_of ts))) ≡ true → list_any (λ (t : Sorted). p t.size) ts ≡ true
some_largest p zero ts one le e = absurd (omega (arith, one))
some_largest p (suc k) [] one le e = absurd (omega (arith, le))
some_largest p (suc k) (t ∷ ts) one le e = by_bool (nat_le (largest (take k (sizes_of ts))) t.size)
    (λ q. passes (p t.size) (ap p (sym (greater t.size (largest (take k (sizes_of ts))) q)) ∙ e))
    (λ q. behind (p t.size) (some_largest p k ts (more k q) (omega (arith, le)) (ap p (sym (other t.size (largest (take k (sizes_of ts))) q)) ∙ e)))
  where
    passes : (v : Bool) → v ≡ true → (v || list_any (λ (x : Sorted). p x.size) ts) ≡ true
    passes true q = refl
    passes false q = absurd (true≢false (sym q))

    behind : (v : Bool) → list_any (λ (x : Sorted). p x.size) ts ≡ true → (v || list_any (λ (x : Sorted). p x.size) ts) ≡ true
    behind true q = refl
    behind false q = q

    greater : (a b : ℕ) → nat_le b a ≡ true → max a b ≡ a
    greater a b q = grind (arith, nat_tests)

    other : (a b : ℕ) → nat_le b a ≡ false → max a b ≡ b
    other a b q = grind (arith, nat_tests)

    below : (n : ℕ) → nat_le 0 n ≡ false → ⊥
    below n q = grind (arith, nat_tests)

    more : (j : ℕ) → nat_le (largest (take j (sizes_of ts))) t.size ≡ false → 1 ≤ j
    more zero q = absurd (below t.size q)
    more (suc j) q = omega arith

-- where sizes rise, those up to a size are the first ones
none_within : (limit : ℕ) (ts : List Sorted) → AllByRecursion (λ (t : Sorted). suc limit ≤ t.size) ts → (count_within limit ts ≡ 0) × (size_within limit ts ≡ 0)
none_within limit [] a = (refl, refl)
none_within limit (t ∷ ts) a =
    let large : nat_le t.size limit ≡ false = beyond t.size limit a.0 in
    let none : counted limit t ≡ 0 = ap (λ v. cond {A = ℕ} v 1 0) large in
    let nothing : cond (nat_le t.size limit) t.size 0 ≡ 0 = ap (λ v. cond v t.size 0) large in
    let later = none_within limit ts a.1 in
    (omega (arith, counts limit t ts, none, later.0), omega (arith, sums limit t ts, nothing, later.1))
  where
    beyond : (n l : ℕ) → suc l ≤ n → nat_le n l ≡ false
    beyond n l le = grind (arith, nat_tests)

record AreTaken (limit k : ℕ) (ts : List Sorted) : Type 0 where
  inside : k ≤ length ts
  most : largest (take k (sizes_of ts)) ≤ limit
  size : sum (take k (sizes_of ts)) ≡ size_within limit ts

taken_within : (limit : ℕ) (ts : List Sorted) → Rises ts → AreTaken limit (count_within limit ts) ts
taken_within limit [] up = record { inside = omega arith; most = omega arith; size = refl }
taken_within limit (t ∷ ts) up = go (nat_le t.size limit) refl (taken_within limit ts up.1)
  where
    go : (v : Bool) → nat_le t.size limit ≡ v → AreTaken limit (count_within limit ts) ts → AreTaken limit (count_within limit (t ∷ ts)) (t ∷ ts)
    go true e ih =
        let one : suc (count_within limit ts) ≡ count_within limit (t ∷ ts) = omega (arith, counts limit t ts, ap {B = ℕ} (λ v. cond {A = ℕ} v 1 0) e) in
        let its : cond (nat_le t.size limit) t.size 0 ≡ t.size = ap (λ v. cond v t.size 0) e in
        let le : t.size ≤ limit = grind (arith, nat_tests) in
        subst (λ k. AreTaken limit k (t ∷ ts)) one (record {
          inside = omega (arith, ih.inside);
          most = omega (arith, le, ih.most);
          size = omega (arith, ih.size, sums limit t ts, its, sum_by-cons (λ x. x) t.size (take (count_within limit ts) (sizes_of ts)));
        })
    go false e ih =
        let over : suc limit ≤ t.size = grind (arith, nat_tests) in
        let none = none_within limit (t ∷ ts) (over, all_over over ts up.0) in
        subst (λ k. AreTaken limit k (t ∷ ts)) (sym none.0) (record { inside = omega arith; most = omega arith; size = sym none.1 })
      where
        all_over : suc limit ≤ t.size → (us : List Sorted) → AllByRecursion (λ (u : Sorted). t.size ≤ u.size) us → AllByRecursion (λ (u : Sorted). suc limit ≤ u.size) us
        all_over over [] a = tt
        all_over over (u ∷ us) a = (omega (arith, over, a.0), all_over over us a.1)

-- ---- plans
-- some table of these has a size up to which they fit
abbrev some_fit : List Sorted → Bool
some_fit ts = list_any (λ (t : Sorted). fit_within t.size ts) ts

module _ (ts : List Sorted) where
  abbrev ys : List Sorted
  ys = by_size ts

  count : length (sizes_of ys) ≡ length ys
  count = length-map ys (λ (t : Sorted). t.size)

  both : (a b : Bool) → a ≡ true → b ≡ true → (a && b) ≡ true
  both a b p q = rw (p, q) refl

  -- where there is a plan
  planned : (k : ℕ) → IsPlan (sizes_of ys) (Some k) → list_any (λ (t : Sorted). fit_within t.size ys) ys ≡ true
  planned k is =
      let inside : k ≤ length ys = omega (arith, is.1, count) in
      let top : ℕ = largest (take k (sizes_of ys)) in
      let first : AreFirst k top ys = first_within k top ys inside (omega arith) in
      let two : nat_le 2 (count_within top ys) ≡ true = is_within 2 (count_within top ys) (omega (arith, first.count, is.0)) in
      let fit : 3 * top ≤ sum (take k (sizes_of ys)) = under (3 * top) (sum (take k (sizes_of ys))) is.2 in
      some_largest (λ n. fit_within n ys) k ys (omega (arith, is.0)) inside (both (nat_le 2 (count_within top ys)) (nat_le (3 * top) (size_within top ys)) two (is_within (3 * top) (size_within top ys) (omega (arith, fit, first.size))))
    where
      under : (a b : ℕ) → nat_le a b ≡ true → a ≤ b
      under a b e = grind (arith, nat_tests)

  -- where there is none
  fails : IsPlan (sizes_of ys) None → (limit : ℕ) → fit_within limit ys ≡ true → ⊥
  fails none limit e =
      let k : ℕ = count_within limit ys in
      let taken : AreTaken limit k ys = taken_within limit ys (rises_by_size ts) in
      let two : 2 ≤ k = under 2 k (first_so (nat_le 2 k) (nat_le (3 * limit) (size_within limit ys)) e) in
      let fit : 3 * limit ≤ size_within limit ys = under (3 * limit) (size_within limit ys) (second_so (nat_le 2 k) (nat_le (3 * limit) (size_within limit ys)) e) in
      let good : fits (sizes_of ys) k ≡ true = is_within (3 * largest (take k (sizes_of ys))) (sum (take k (sizes_of ys))) (omega (arith, fit, taken.most, taken.size)) in
      true≢false (sym good ∙ none k two (omega (arith, taken.inside, count)))
    where
      under : (a b : ℕ) → nat_le a b ≡ true → a ≤ b
      under a b q = grind (arith, nat_tests)

  none_passes : (p : Sorted → Bool) (us : List Sorted) → ((u : Sorted) → p u ≡ true → ⊥) → list_any p us ≡ false
  none_passes p [] f = refl
  none_passes p (u ∷ us) f = go (p u) refl (none_passes p us f)
    where
      go : (v : Bool) → p u ≡ v → list_any p us ≡ false → (v || list_any p us) ≡ false
      go true e ih = absurd (f u e)
      go false e ih = ih

  any_fit : list_any (λ (t : Sorted). fit_within t.size ys) ys ≡ some_fit ts
  any_fit = (λ i. list_any (λ (t : Sorted). fit_sorted t.size ts i) ys) ∙ sorted_any (λ (t : Sorted). fit_within t.size ts) ts

  pub plans_fit : some_fit ts ≡ is_some (plan (sizes_of ys))
  plans_fit = sym any_fit ∙ go (plan (sizes_of ys)) (plan_is_greatest (sizes_of ys))
    where
      go : (o : Option ℕ) → IsPlan (sizes_of ys) o → list_any (λ (t : Sorted). fit_within t.size ys) ys ≡ is_some o
      go None none = none_passes (λ (t : Sorted). fit_within t.size ys) ys (λ t e. fails none t.size e)
      go (Some k) is = planned k is
