-- Places of lists in the order of the lists' first records.
use Rattle.std.proofs.Common.{◌≡◌, ◌≢◌, ℕ, zero, suc, ◌+◌, ◌-◌, ◌<◌, ◌≤◌, List, [], ◌∷◌, ◌++◌, Bool, true, false, not, refl, sym, ◌∙◌, ap, subst, length, take, drop, get_or, set, map, arith, Option, Some, None, below_more, ltb}
use Rattle.std.specs.Prelude.{◌==◌, IsSome, is_some, slice_get}
use Rattle.std.specs.Bool.{OnTrue}
use Rattle.std.specs.List.{AllByRecursion, AllWithin}
use Rattle.std.specs.List.Sorted.{IsPartitionedBy, IsPartitionPoint}
use Rattle.std.specs.Cmp.{tied_itself}
use Rattle.std.specs.Ordering.{is_lt, ordering_reverse}
use Rattle.std.specs.declared.cmp.Ordering.{Ordering}
use Rattle.std.specs.declared.cmp.Ordering.TheVariants.{Less, Equal, Greater}
use Rattle.std.proofs.lemmas.Bool.Decides.{nat_tests}
use Rattle.std.proofs.lemmas.List.{append-nil, take-append-drop, get_or-set_other, length-map}
use mathlib.Core.Bool.{true≢false}
use Rattle.tab_key.specs.Order.{record_cmp}
use Rattle.tab_key.proofs.Order.{record_cmp_total}
use Rattle.tab_key.proofs.Rising.{is_less}
use Rattle.tab_key.specs.Records.{Record}
use Rattle.tab_key.specs.Sorted.{sorted, IsDistinct}
use Rattle.tab_cells.proofs.Lists.{by_bool}
use Rattle.tab_iter.specs.Lists.{first_of, tail, IsRising, IsEnd}
use Rattle.tab_iter.specs.Bags.{flat, IsFirstAt, is_ahead, first_in, Leads, IsOutside, IsBehind, IsDescending, Covers}
use Rattle.tab_iter.proofs.BagLaws.{least_sorted, each_ends, each_rises, EachEnds, EachRises}
use Rattle.tab_iter.proofs.MergingLaws.{none_merged}

is_empty : (xs : List Record) → is_some (first_of xs) ≡ false → xs ≡ []
is_empty [] e = refl
is_empty (x ∷ xs) e = absurd (true≢false e)

ahead_of_itself : (o : Option Record) → is_ahead o o ≡ false
ahead_of_itself None = refl
ahead_of_itself (Some r) = ap is_lt (tied_itself record_cmp_total r)

ahead_not_back : (x y : Option Record) → is_ahead x y ≡ true → is_ahead y x ≡ false
ahead_not_back None y e = absurd (true≢false (sym e))
ahead_not_back (Some x) None e = refl
ahead_not_back (Some x) (Some y) e = ap is_lt (record_cmp_total.antisymm y x ∙ ap ordering_reverse (is_less (record_cmp x y) e))

not_before : (x y z : Record) → is_lt (record_cmp x y) ≡ false → is_lt (record_cmp y z) ≡ false → is_lt (record_cmp x z) ≡ false
not_before x y z xy yz = by_bool (is_lt (record_cmp x z)) (λ t. absurd (true≢false (sym (ap is_lt (go (record_cmp y z) refl (is_less (record_cmp x z) t))) ∙ xy))) (λ t. t)
  where
    go : (o : Ordering) → record_cmp y z ≡ o → record_cmp x z ≡ Less → record_cmp x y ≡ Less
    go Less s t = absurd (true≢false (sym (ap is_lt s) ∙ yz))
    go Equal s t = record_cmp_total.antisymm x y ∙ ap ordering_reverse (record_cmp_total.congr y z x s ∙ record_cmp_total.antisymm z x ∙ ap ordering_reverse t)
    go Greater s t = record_cmp_total.trans x z y t (record_cmp_total.antisymm z y ∙ ap ordering_reverse s)

not_ahead : (x y z : Option Record) → is_ahead x y ≡ false → is_ahead y z ≡ false → is_ahead x z ≡ false
not_ahead None y z xy yz = refl
not_ahead (Some x) None z xy yz = absurd (true≢false xy)
not_ahead (Some x) (Some y) None xy yz = absurd (true≢false yz)
not_ahead (Some x) (Some y) (Some z) xy yz = not_before x y z xy yz

none_worse : (x y : Option Record) → is_some x ≡ false → is_ahead x y ≡ false
none_worse None y e = refl
none_worse (Some x) y e = absurd (true≢false e)

equal_places : (k b : ℕ) → (k == b) ≡ true → k ≡ b
equal_places k b e = grind (arith, nat_tests)

other_places : (k b : ℕ) → (k == b) ≡ false → k ≡ b → ⊥
other_places k b e s = grind (arith, nat_tests)

-- ---- the last place
all_last : (P : ℕ → Type 0) (os : List ℕ) (b : ℕ) → AllByRecursion P (os ++ b ∷ []) → P b
all_last P [] b a = a.0
all_last P (o ∷ os) b a = all_last P os b a.1

all_front : (P : ℕ → Type 0) (os : List ℕ) (b : ℕ) → AllByRecursion P (os ++ b ∷ []) → AllByRecursion P os
all_front P [] b a = tt
all_front P (o ∷ os) b a = (a.0, all_front P os b a.1)

pub descending_front : (xss : List (List Record)) (os : List ℕ) (b : ℕ) → IsDescending xss (os ++ b ∷ []) → IsDescending xss os
descending_front xss [] b f = tt
descending_front xss (o ∷ os) b f = (f.0, (all_front (IsBehind xss o) os b f.1.0, descending_front xss os b f.1.1))

pub outside_front : (xss : List (List Record)) (os : List ℕ) (b : ℕ) → IsDescending xss (os ++ b ∷ []) → IsOutside os b
outside_front xss [] b f = tt
outside_front xss (o ∷ os) b f = ((all_last (IsBehind xss o) os b f.1.0).0, outside_front xss os b f.1.1)

pub some_last : (xss : List (List Record)) (os : List ℕ) (b : ℕ) → IsDescending xss (os ++ b ∷ []) → IsSome (first_in xss b)
some_last xss [] b f = f.0
some_last xss (o ∷ os) b f = some_last xss os b f.1.1

behind_last : (xss : List (List Record)) (os : List ℕ) (b : ℕ) → IsDescending xss (os ++ b ∷ []) → AllByRecursion (λ o. is_ahead (first_in xss o) (first_in xss b) ≡ false) (os ++ b ∷ [])
behind_last xss [] b f = (ahead_of_itself (first_in xss b), tt)
behind_last xss (o ∷ os) b f = ((all_last (IsBehind xss o) os b f.1.0).1, behind_last xss os b f.1.1)

pub leads_last : (xss : List (List Record)) (os : List ℕ) (b : ℕ) → IsDescending xss (os ++ b ∷ []) → Covers xss (os ++ b ∷ []) → Leads xss b
leads_last xss os b f c k = go (os ++ b ∷ []) (behind_last xss os b f) (c k)
  where
    go : (ps : List ℕ) → AllByRecursion (λ o. is_ahead (first_in xss o) (first_in xss b) ≡ false) ps → (IsOutside ps k → is_some (first_in xss k) ≡ false) → is_ahead (first_in xss k) (first_in xss b) ≡ false
    go [] a h = none_worse (first_in xss k) (first_in xss b) (h tt)
    go (p ∷ ps) a h = by_bool (p == k) (λ t. ap (λ j. is_ahead (first_in xss j) (first_in xss b)) (sym (equal_places p k t)) ∙ a.0) (λ t. go ps a.1 (λ w. h (other_places p k t, w)))

-- the last place, as a look at it tells
pub last_is : (os : List ℕ) (b : ℕ) → Some b ≡ slice_get os (length os - 1) → os ≡ take (length os - 1) os ++ b ∷ []
last_is [] b e = cc
last_is (o ∷ os) b e = subst (λ n. o ∷ os ≡ take n (o ∷ os) ++ b ∷ []) (sym (front os)) (go o os (e ∙ ap (slice_get (o ∷ os)) (front os)))
  where
    front : (ps : List ℕ) → suc (length ps) - 1 ≡ length ps
    front ps = omega arith

    go : (p : ℕ) (ps : List ℕ) → Some b ≡ slice_get (p ∷ ps) (length ps) → p ∷ ps ≡ take (length ps) (p ∷ ps) ++ b ∷ []
    go p [] e = let s : b ≡ p = cc in ap (λ n. n ∷ []) (sym s)
    go p (q ∷ ps) e = ap (λ l. p ∷ l) (go q ps e)

inside_of : (xss : List (List Record)) (b : ℕ) (r : Record) → first_in xss b ≡ Some r → b < length xss
inside_of [] b r e = let N : Option Record = None in let f : N ≡ Some r = e in absurd cc
inside_of (xs ∷ xss) zero r e = omega arith
inside_of (xs ∷ xss) (suc b) r e = let lt : b < length xss = inside_of xss b r e in omega (arith, lt)

pub first_of_leads : (xss : List (List Record)) (b : ℕ) → IsSome (first_in xss b) → Leads xss b → IsFirstAt xss (length xss) b
first_of_leads xss b some l = go (first_in xss b) refl some
  where
    go : (o : Option Record) → first_in xss b ≡ o → IsSome o → IsFirstAt xss (length xss) b
    go None is e = absurd (true≢false (sym e))
    go (Some r) is e = record {
      inside = inside_of xss b r is;
      first = r;
      is = is;
      least = λ k u lt s. (λ i. is_ahead (sym s i) (sym is i)) ∙ l k;
    }

-- ---- one place more
all_joined : (P : ℕ → Type 0) (os ps : List ℕ) (b : ℕ) → AllByRecursion P (os ++ ps) → P b → AllByRecursion P (os ++ b ∷ ps)
all_joined P [] ps b a h = (h, a)
all_joined P (o ∷ os) ps b a h = (a.0, all_joined P os ps b a.1 h)

all_parted : (P : ℕ → Type 0) (os ps : List ℕ) (b : ℕ) → AllByRecursion P (os ++ b ∷ ps) → AllByRecursion P (os ++ ps)
all_parted P [] ps b a = a.1
all_parted P (o ∷ os) ps b a = (a.0, all_parted P os ps b a.1)

all_middle : (P : ℕ → Type 0) (os ps : List ℕ) (b : ℕ) → AllByRecursion P (os ++ b ∷ ps) → P b
all_middle P [] ps b a = a.0
all_middle P (o ∷ os) ps b a = all_middle P os ps b a.1

descending_joined : (xss : List (List Record)) (os ps : List ℕ) (b : ℕ) → IsDescending xss (os ++ ps) → AllByRecursion (λ o. is_ahead (first_in xss o) (first_in xss b) ≡ false) os → AllByRecursion (λ o. is_ahead (first_in xss o) (first_in xss b) ≡ true) ps → IsOutside (os ++ ps) b → IsSome (first_in xss b) → IsDescending xss (os ++ b ∷ ps)
descending_joined xss [] ps b f a c out some = (some, (go ps c out, f))
  where
    go : (qs : List ℕ) → AllByRecursion (λ o. is_ahead (first_in xss o) (first_in xss b) ≡ true) qs → IsOutside qs b → AllByRecursion (IsBehind xss b) qs
    go [] c out = tt
    go (q ∷ qs) c out = ((λ e. out.0 (sym e), ahead_not_back (first_in xss q) (first_in xss b) c.0), go qs c.1 out.1)
descending_joined xss (o ∷ os) ps b f a c out some = (f.0, (all_joined (IsBehind xss o) os ps b f.1.0 (out.0, a.0), descending_joined xss os ps b f.1.1 a.1 c out.1 some))

pub descending_pushed : (xss : List (List Record)) (os lent qs : List ℕ) (b : ℕ) → lent ≡ os → qs ≡ os ++ b ∷ [] → IsDescending xss os → AllByRecursion (λ o. is_ahead (first_in xss o) (first_in xss b) ≡ false) lent → IsOutside os b → IsSome (first_in xss b) → IsDescending xss qs
descending_pushed xss os lent qs b v e f a out some = subst (IsDescending xss) (sym e) (descending_joined xss os [] b (subst (IsDescending xss) (sym (append-nil os)) f) (subst (AllByRecursion (λ o. is_ahead (first_in xss o) (first_in xss b) ≡ false)) v a) tt (subst (λ l. IsOutside l b) (sym (append-nil os)) out) some)

within_take : (P : ℕ → Type 0) (os : List ℕ) (n : ℕ) → AllWithin P os 0 n → n ≤ length os → AllByRecursion P (take n os)
within_take P os zero a h = tt
within_take P [] (suc n) a h = absurd (omega (arith, h))
within_take P (o ∷ os) (suc n) a h = (a 0 o (omega arith) (omega arith), within_take P os n (λ k d low high. a (suc k) d (omega arith) (omega (arith, high))) (omega (arith, h)))

within_drop : (P : ℕ → Type 0) (os : List ℕ) (n : ℕ) → AllWithin P os n (length os) → AllByRecursion P (drop n os)
within_drop P [] zero a = tt
within_drop P (o ∷ os) zero a = (a 0 o (omega arith) (omega arith), within_drop P os zero (λ k d low high. a (suc k) d (omega arith) (omega (arith, high))))
within_drop P [] (suc n) a = tt
within_drop P (o ∷ os) (suc n) a = within_drop P os n (λ k d low high. a (suc k) d (omega (arith, low)) (omega (arith, high)))

pub descending_inserted : (xss : List (List Record)) (os lent qs : List ℕ) (b n : ℕ) → lent ≡ os → qs ≡ take n os ++ b ∷ drop n os → IsDescending xss os → n ≤ length lent → IsPartitionPoint (λ o. is_ahead (first_in xss o) (first_in xss b) ≡ false) (λ o. is_ahead (first_in xss o) (first_in xss b) ≡ true) lent n → IsOutside os b → IsSome (first_in xss b) → IsDescending xss qs
descending_inserted xss os lent qs b n v e f upto cut out some =
    let h : n ≤ length os = subst (λ l. n ≤ length l) v upto in
    let parted = subst (λ l. IsPartitionPoint (λ o. is_ahead (first_in xss o) (first_in xss b) ≡ false) (λ o. is_ahead (first_in xss o) (first_in xss b) ≡ true) l n) v cut in
    subst (IsDescending xss) (sym e)
    (descending_joined xss (take n os) (drop n os) b
    (subst (IsDescending xss) (sym (take-append-drop n os)) f)
    (within_take (λ o. is_ahead (first_in xss o) (first_in xss b) ≡ false) os n parted.0 h)
    (within_drop (λ o. is_ahead (first_in xss o) (first_in xss b) ≡ true) os n parted.1)
    (subst (λ l. IsOutside l b) (sym (take-append-drop n os)) out)
    some)

-- what was outside stays there, and nothing else comes to it
pub outside_inserted : (os qs : List ℕ) (b n k : ℕ) → qs ≡ take n os ++ b ∷ drop n os → k ≢ b → IsOutside os k → IsOutside qs k
outside_inserted os qs b n k e other out = subst (λ l. IsOutside l k) (sym e) (all_joined (λ o. o ≢ k) (take n os) (drop n os) b (subst (λ l. IsOutside l k) (sym (take-append-drop n os)) out) (λ s. other (sym s)))

pub outside_kept : (os qs : List ℕ) (b n k : ℕ) → qs ≡ take n os ++ b ∷ drop n os → IsOutside qs k → IsOutside os k
outside_kept os qs b n k e out = subst (λ l. IsOutside l k) (take-append-drop n os) (all_parted (λ o. o ≢ k) (take n os) (drop n os) b (subst (λ l. IsOutside l k) e out))

pub not_outside : (os qs : List ℕ) (b n : ℕ) → qs ≡ take n os ++ b ∷ drop n os → IsOutside qs b → ⊥
not_outside os qs b n e out = all_middle (λ o. o ≢ b) (take n os) (drop n os) b (subst (λ l. IsOutside l b) e out) refl

pub pushed : (os qs : List ℕ) (b : ℕ) → qs ≡ os ++ b ∷ [] → qs ≡ take (length os) os ++ b ∷ drop (length os) os
pushed os qs b e = e ∙ go os
  where
    go : (ps : List ℕ) → ps ++ b ∷ [] ≡ take (length ps) ps ++ b ∷ drop (length ps) ps
    go [] = refl
    go (p ∷ ps) = ap (λ l. p ∷ l) (go ps)

-- ---- where a place goes
descending_far : (xss : List (List Record)) (b : ℕ) (os : List ℕ) → IsDescending xss os → IsPartitionedBy (λ o. not (is_ahead (first_in xss o) (first_in xss b))) os
descending_far xss b [] f i j d upto lt e = absurd (omega (arith, lt))
descending_far xss b (o ∷ os) f zero zero d upto lt e = e
descending_far xss b (o ∷ os) f (suc i) zero d upto lt e = absurd (omega (arith, upto))
descending_far xss b (o ∷ os) f (suc i) (suc j) d upto lt e = descending_far xss b os f.1.1 i j d (omega (arith, upto)) (omega (arith, lt)) e
descending_far xss b (o ∷ os) f zero (suc j) d upto lt e = ap not (go os j f.1.0 (omega (arith, lt)) (is_false _ e))
  where
    is_false : (v : Bool) → not v ≡ true → v ≡ false
    is_false true e = absurd (true≢false (sym e))
    is_false false e = refl

    go : (ps : List ℕ) (k : ℕ) → AllByRecursion (IsBehind xss o) ps → k < length ps → is_ahead (first_in xss (get_or ps k d)) (first_in xss b) ≡ false → is_ahead (first_in xss o) (first_in xss b) ≡ false
    go [] k a less e = absurd (omega (arith, less))
    go (p ∷ ps) zero a less e = not_ahead (first_in xss o) (first_in xss p) (first_in xss b) a.0.1 e
    go (p ∷ ps) (suc k) a less e = go ps k a.1 (omega (arith, less)) e

pub parted_by : (xss : List (List Record)) (b : ℕ) (os : List ℕ) → IsDescending xss os → IsPartitionedBy (λ o. not (is_ahead (first_in xss o) (first_in xss b))) os
parted_by xss b os f = descending_far xss b os f

pub on_not : {P : Type 0} (v : Bool) → (v ≡ false → P) → OnTrue (not v) P
on_not true f = tt
on_not false f = f refl

not_true : (v : Bool) → not v ≡ true → v ≡ false
not_true true e = absurd (true≢false (sym e))
not_true false e = refl

not_false : (v : Bool) → not v ≡ false → v ≡ true
not_false true e = refl
not_false false e = absurd (true≢false e)

pub parted_at : (xss : List (List Record)) (b : ℕ) (os : List ℕ) (n : ℕ) → IsPartitionPoint (λ o. not (is_ahead (first_in xss o) (first_in xss b)) ≡ true) (λ o. not (is_ahead (first_in xss o) (first_in xss b)) ≡ false) os n → IsPartitionPoint (λ o. is_ahead (first_in xss o) (first_in xss b) ≡ false) (λ o. is_ahead (first_in xss o) (first_in xss b) ≡ true) os n
parted_at xss b os n p = ((λ k d low high. not_true _ (p.0 k d low high)), (λ k d low high. not_false _ (p.1 k d low high)))

-- the last place isn't behind b, nor is any other
pub none_ahead : (xss : List (List Record)) (os : List ℕ) (l b : ℕ) → Some l ≡ slice_get os (length os - 1) → IsDescending xss os → is_ahead (first_in xss l) (first_in xss b) ≡ false → AllByRecursion (λ o. is_ahead (first_in xss o) (first_in xss b) ≡ false) os
none_ahead xss os l b is f e = subst (AllByRecursion (λ o. is_ahead (first_in xss o) (first_in xss b) ≡ false)) (sym (last_is os l is)) (go (take (length os - 1) os ++ l ∷ []) (behind_last xss (take (length os - 1) os) l (subst (IsDescending xss) (last_is os l is) f)))
  where
    go : (ps : List ℕ) → AllByRecursion (λ o. is_ahead (first_in xss o) (first_in xss l) ≡ false) ps → AllByRecursion (λ o. is_ahead (first_in xss o) (first_in xss b) ≡ false) ps
    go [] a = tt
    go (p ∷ ps) a = (not_ahead (first_in xss p) (first_in xss l) (first_in xss b) a.0 e, go ps a.1)

pub none_at_all : (os : List ℕ) → is_some (slice_get os (length os - 1)) ≡ false → (k : ℕ) → IsOutside os k
none_at_all [] e k = tt
none_at_all (o ∷ os) e k = let front : suc (length os) - 1 ≡ length os = omega arith in absurd (go o os (ap (λ n. is_some (slice_get (o ∷ os) n)) (sym front) ∙ e))
  where
    go : (p : ℕ) (ps : List ℕ) → is_some (slice_get (p ∷ ps) (length ps)) ≡ false → ⊥
    go p [] e = true≢false e
    go p (q ∷ ps) e = go q ps e

pub none_of_none : (os : List ℕ) → length os ≡ 0 → (k : ℕ) → IsOutside os k
none_of_none [] e k = tt
none_of_none (o ∷ os) e k = absurd (omega (arith, e))

-- ---- an advance of the last
pub same_others : (xss : List (List Record)) (b k : ℕ) (t : List Record) → k ≢ b → first_in (set xss b t) k ≡ first_in xss k
same_others xss b k t other = ap first_of (get_or-set_other xss b k t [] other)

pub descending_set : (xss : List (List Record)) (os : List ℕ) (b : ℕ) (t : List Record) → IsDescending xss os → IsOutside os b → IsDescending (set xss b t) os
descending_set xss [] b t f out = tt
descending_set xss (o ∷ os) b t f out = (subst IsSome (sym (same_others xss b o t out.0)) f.0, (go os f.1.0 out.1, descending_set xss os b t f.1.1 out.1))
  where
    go : (ps : List ℕ) → AllByRecursion (IsBehind xss o) ps → IsOutside ps b → AllByRecursion (IsBehind (set xss b t) o) ps
    go [] a out = tt
    go (p ∷ ps) a more = ((a.0.0, (λ i. is_ahead (same_others xss b o t out.0 i) (same_others xss b p t more.0 i)) ∙ a.0.1), go ps a.1 more.1)

pub covers_set : (xss : List (List Record)) (os qs : List ℕ) (b : ℕ) (t : List Record) → Covers xss (os ++ b ∷ []) → ((k : ℕ) → IsOutside qs k → IsOutside os k) → (IsOutside qs b → first_in (set xss b t) b ≡ None) → Covers (set xss b t) qs
covers_set xss os qs b t c kept inside k out = by_bool (k == b)
    (λ e. ap is_some (ap (first_in (set xss b t)) (equal_places k b e) ∙ inside (subst (IsOutside qs) (equal_places k b e) out)))
    (λ e. ap is_some (same_others xss b k t (other_places k b e)) ∙ c k (all_joined (λ o. o ≢ k) os [] b (subst (λ l. IsOutside l k) (sym (append-nil os)) (kept k out)) (λ s. other_places k b e (sym s))))

-- ---- all places
pub covers_more : (xss : List (List Record)) (os qs : List ℕ) (i : ℕ) → ((k : ℕ) → k < i → IsOutside os k → is_some (first_in xss k) ≡ false) → ((k : ℕ) → IsOutside qs k → IsOutside os k) → (IsOutside qs i → first_in xss i ≡ None) → (k : ℕ) → k < i + 1 → IsOutside qs k → is_some (first_in xss k) ≡ false
covers_more xss os qs i below kept inside = below_more (λ k. IsOutside qs k → is_some (first_in xss k) ≡ false) i (λ k lt out. below k lt (kept k out)) (λ out. ap is_some (inside out))

past : (xss : List (List Record)) (k : ℕ) → length xss ≤ k → is_some (first_in xss k) ≡ false
past [] k h = refl
past (xs ∷ xss) zero h = absurd (omega (arith, h))
past (xs ∷ xss) (suc k) h = past xss k (omega (arith, h))

below_true : (k i : ℕ) → ltb k i ≡ true → k < i
below_true k i t = grind (arith, nat_tests)

not_below : (k i : ℕ) → ltb k i ≡ false → i ≤ k
not_below k i t = grind (arith, nat_tests)

pub covers_all : (xss : List (List Record)) (os : List ℕ) (i : ℕ) → length xss ≤ i → ((k : ℕ) → k < i → IsOutside os k → is_some (first_in xss k) ≡ false) → Covers xss os
covers_all xss os i upto below k out = by_bool (ltb k i) (λ t. below k (below_true k i t) out) (λ t. past xss k (within (not_below k i t)))
  where
    within : i ≤ k → length xss ≤ k
    within h = omega (arith, upto, h)

first_least : (rs ws : List (List Record)) (b : ℕ) → EachEnds rs ws → EachRises ws → IsDistinct (flat ws) → (l : IsFirstAt rs (length rs) b) → first_of (get_or rs b []) ≡ first_of (sorted (flat rs))
first_least rs ws b e up d l = l.is ∙ sym (ap first_of (least_sorted rs ws b e up d l))

-- ---- sources in their order
pub first_last : {S : Type 0} (rest : S → List Record) (items : List S) (ps os : List ℕ) (b : ℕ) → ps ≡ os ++ b ∷ [] → IsDescending (map rest items) ps → Covers (map rest items) ps → IsFirstAt (map rest items) (length items) b
first_last rest items ps os b e f c = subst (λ n. IsFirstAt (map rest items) n b) (length-map items rest)
    (first_of_leads (map rest items) b (some_last (map rest items) os b (subst (IsDescending (map rest items)) e f)) (leads_last (map rest items) os b (subst (IsDescending (map rest items)) e f) (subst (Covers (map rest items)) e c)))

pub none_left : {S : Type 0} (rest : S → List Record) (items : List S) (os : List ℕ) → ((k : ℕ) → IsOutside os k) → Covers (map rest items) os → sorted (flat (map rest items)) ≡ []
none_left rest items os out c = none_merged rest items (λ k lt. is_empty (get_or (map rest items) k []) (c k (out k)))

pub first_step : {S : Type 0} (rest whole : S → List Record) → ((s : S) → IsEnd (rest s) (whole s)) → ((s : S) → IsRising (whole s)) → (items lent : List S) (os found : List ℕ) (b : ℕ) → lent ≡ items → found ≡ os → Some b ≡ slice_get found (length found - 1) → IsDistinct (flat (map whole items)) → IsDescending (map rest items) os → Covers (map rest items) os → first_in (map rest lent) b ≡ first_of (sorted (flat (map rest items)))
first_step rest whole ends rises items lent os found b v same last apart f c =
    let l = first_last rest items found (take (length found - 1) found) b (last_is found b last) (subst (IsDescending (map rest items)) (sym same) f) (subst (Covers (map rest items)) (sym same) c) in
    ap (λ l. first_in (map rest l) b) v
    ∙ first_least (map rest items) (map whole items) b (each_ends rest whole ends items) (each_rises whole rises items) apart (subst (λ n. IsFirstAt (map rest items) n b) (sym (length-map items rest)) l)

pub inside_last : {S : Type 0} (rest : S → List Record) (items lent : List S) (ps os : List ℕ) (b : ℕ) → lent ≡ items → ps ≡ os ++ b ∷ [] → IsDescending (map rest items) ps → Covers (map rest items) ps → b < length lent
inside_last rest items lent ps os b v e f c = subst (λ l. b < length l) (sym v) (first_last rest items ps os b e f c).inside

pub descending_step : {S : Type 0} (rest : S → List Record) (items lent new found : List S) (ps os : List ℕ) (b : ℕ) → lent ≡ items → found ≡ new → map rest new ≡ set (map rest lent) b (tail (get_or (map rest lent) b [])) → ps ≡ os ++ b ∷ [] → IsDescending (map rest items) ps → IsDescending (map rest found) os
descending_step rest items lent new found ps os b v w is e f =
    subst (λ l. IsDescending l os) (sym (ap (map rest) w ∙ is ∙ ap (λ l. set (map rest l) b (tail (get_or (map rest l) b []))) v))
    (descending_set (map rest items) os b (tail (get_or (map rest items) b [])) (descending_front (map rest items) os b (subst (IsDescending (map rest items)) e f)) (outside_front (map rest items) os b (subst (IsDescending (map rest items)) e f)))

pub covers_step : {S : Type 0} (rest : S → List Record) (items lent new found : List S) (ps os qs : List ℕ) (b : ℕ) → lent ≡ items → found ≡ new → map rest new ≡ set (map rest lent) b (tail (get_or (map rest lent) b [])) → ps ≡ os ++ b ∷ [] → Covers (map rest items) ps → ((k : ℕ) → IsOutside qs k → IsOutside os k) → (IsOutside qs b → first_in (map rest found) b ≡ None) → Covers (map rest found) qs
covers_step rest items lent new found ps os qs b v w is e c kept inside =
    let now : map rest found ≡ set (map rest items) b (tail (get_or (map rest items) b [])) = ap (map rest) w ∙ is ∙ ap (λ l. set (map rest l) b (tail (get_or (map rest l) b []))) v in
    subst (λ l. Covers l qs) (sym now)
    (covers_set (map rest items) os qs b (tail (get_or (map rest items) b [])) (subst (Covers (map rest items)) e c) kept (λ out. subst (λ l. first_in l b ≡ None) now (inside out)))
