-- Rising lists of records: two with the same members are one, and a sorted list of distinct records rises.
use Rattle.std.proofs.Common.{◌≡◌, ◌≢◌, ◌⊎◌, inl, inr, ℕ, zero, suc, ◌<◌, List, [], ◌∷◌, Bool, true, false, cond, refl, sym, ◌∙◌, ap, subst, length, arith}
use Rattle.std.specs.Prelude.{filter, Contains}
use Rattle.std.specs.List.{AllByRecursion, slice_index_or}
use Rattle.std.specs.List.Sorted.{IsStrictlySortedBy}
use Rattle.std.specs.Ordering.{is_lt, ordering_reverse}
use Rattle.std.specs.declared.cmp.Ordering.{Ordering}
use Rattle.std.specs.declared.cmp.Ordering.TheVariants.{Less, Equal, Greater}
use mathlib.Core.Bool.{true≢false}
use Rattle.tab_key.specs.Order.{record_cmp, stands_before}
use Rattle.tab_key.specs.Sorted.{inserted, sorted, IsDistinct, IsIn}
use Rattle.tab_key.specs.Records.{Record}
use Rattle.tab_key.proofs.Order.{record_cmp_total}
use Rattle.tab_key.proofs.Each.{each_map, each_filter}

pub in_from : (xs : List Record) (u : Record) → Contains xs u → IsIn xs u
in_from [] u c = absurd (omega (arith, c.1))
in_from (x ∷ xs) u c = go c.0 c.1 c.2 (in_from xs u)
  where
    go : (k : ℕ) → k < length (x ∷ xs) → slice_index_or (x ∷ xs) k u ≡ u → (Contains xs u → IsIn xs u) → (x ≡ u) ⊎ IsIn xs u
    go zero lt e ih = inl e
    go (suc k) lt e ih = inr (ih (k, omega arith, e))

pub in_to : (xs : List Record) (u : Record) → IsIn xs u → Contains xs u
in_to [] u h = absurd h
in_to (x ∷ xs) u (inl e) = (0, omega arith, e)
in_to (x ∷ xs) u (inr h) = let c : Contains xs u = in_to xs u h in (suc c.0, omega (arith, c.1), c.2)

-- P holds of the member
pub all_in : (P : Record → Type 0) (xs : List Record) → AllByRecursion P xs → (u : Record) → IsIn xs u → P u
all_in P [] a u h = absurd h
all_in P (x ∷ xs) a u (inl e) = subst P e a.0
all_in P (x ∷ xs) a u (inr h) = all_in P xs a.1 u h

Greater-not_Less : Greater ≡ Less → ⊥
Greater-not_Less e = cc

pub not_both : (x y : Record) → record_cmp x y ≡ Less → record_cmp y x ≡ Less → ⊥
not_both x y p q = Greater-not_Less (sym (ap ordering_reverse q) ∙ sym (record_cmp_total.antisymm x y) ∙ p)

pub not_itself : (x y : Record) → x ≡ y → record_cmp x y ≡ Less → ⊥
not_itself x y e p = not_both x y p (subst (λ z. record_cmp z x ≡ Less) e (subst (λ z. record_cmp x z ≡ Less) (sym e) p))

-- rising lists with the same members are one
pub same_rising : (xs ys : List Record) → IsStrictlySortedBy record_cmp xs → IsStrictlySortedBy record_cmp ys → ((u : Record) → IsIn xs u → IsIn ys u) → ((u : Record) → IsIn ys u → IsIn xs u) → xs ≡ ys
unfolding IsStrictlySortedBy
same_rising [] [] r s f g = refl
same_rising [] (y ∷ ys) r s f g = absurd (g y (inl refl))
same_rising (x ∷ xs) [] r s f g = absurd (f x (inl refl))
same_rising (x ∷ xs) (y ∷ ys) r s f g = λ i. heads i ∷ same_rising xs ys r.1 s.1 down up i
  where
    first : (y ≡ x) ⊎ IsIn ys x → (x ≡ y) ⊎ IsIn xs y → x ≡ y
    first (inl e) k = sym e
    first (inr h) (inl e) = e
    first (inr h) (inr k) = absurd (not_both x y (all_in (λ z. record_cmp x z ≡ Less) xs r.0 y k) (all_in (λ z. record_cmp y z ≡ Less) ys s.0 x h))

    heads : x ≡ y
    heads = first (f x (inl refl)) (g y (inl refl))

    below : (u : Record) → IsIn xs u → (y ≡ u) ⊎ IsIn ys u → IsIn ys u
    below u h (inl e) = absurd (not_itself x u (heads ∙ e) (all_in (λ z. record_cmp x z ≡ Less) xs r.0 u h))
    below u h (inr k) = k

    down : (u : Record) → IsIn xs u → IsIn ys u
    down u h = below u h (f u (inr h))

    above : (u : Record) → IsIn ys u → (x ≡ u) ⊎ IsIn xs u → IsIn xs u
    above u h (inl e) = absurd (not_itself y u (sym heads ∙ e) (all_in (λ z. record_cmp y z ≡ Less) ys s.0 u h))
    above u h (inr k) = k

    up : (u : Record) → IsIn ys u → IsIn xs u
    up u h = above u h (g u (inr h))

-- ---- insertion computes it
pub in_inserted : (x : Record) (xs : List Record) (u : Record) → IsIn (inserted x xs) u → (x ≡ u) ⊎ IsIn xs u
in_inserted x [] u h = h
in_inserted x (y ∷ ys) u h = go (stands_before x y) h (in_inserted x ys u)
  where
    go : (v : Bool) → IsIn (cond v (x ∷ y ∷ ys) (y ∷ inserted x ys)) u → (IsIn (inserted x ys) u → (x ≡ u) ⊎ IsIn ys u) → (x ≡ u) ⊎ IsIn (y ∷ ys) u
    go true h ih = h
    go false (inl e) ih = inr (inl e)
    go false (inr k) ih = turn (ih k)
      where
        turn : (x ≡ u) ⊎ IsIn ys u → (x ≡ u) ⊎ IsIn (y ∷ ys) u
        turn (inl e) = inl e
        turn (inr k) = inr (inr k)

pub inserted_in : (x : Record) (xs : List Record) (u : Record) → (x ≡ u) ⊎ IsIn xs u → IsIn (inserted x xs) u
inserted_in x [] u h = h
inserted_in x (y ∷ ys) u h = go (stands_before x y) h (inserted_in x ys u)
  where
    go : (v : Bool) → (x ≡ u) ⊎ IsIn (y ∷ ys) u → ((x ≡ u) ⊎ IsIn ys u → IsIn (inserted x ys) u) → IsIn (cond v (x ∷ y ∷ ys) (y ∷ inserted x ys)) u
    go true h ih = h
    go false (inl e) ih = inr (ih (inl e))
    go false (inr (inl e)) ih = inl e
    go false (inr (inr k)) ih = inr (ih (inr k))

pub in_sorted : (xs : List Record) (u : Record) → IsIn (sorted xs) u → IsIn xs u
in_sorted [] u h = h
in_sorted (x ∷ xs) u h = go (in_inserted x (sorted xs) u h) (in_sorted xs u)
  where
    go : (x ≡ u) ⊎ IsIn (sorted xs) u → (IsIn (sorted xs) u → IsIn xs u) → (x ≡ u) ⊎ IsIn xs u
    go (inl e) ih = inl e
    go (inr k) ih = inr (ih k)

pub sorted_in : (xs : List Record) (u : Record) → IsIn xs u → IsIn (sorted xs) u
sorted_in [] u h = h
sorted_in (x ∷ xs) u (inl e) = inserted_in x (sorted xs) u (inl e)
sorted_in (x ∷ xs) u (inr k) = inserted_in x (sorted xs) u (inr (sorted_in xs u k))

pub all_inserted : (P : Record → Type 0) (x : Record) (xs : List Record) → P x → AllByRecursion P xs → AllByRecursion P (inserted x xs)
all_inserted P x [] p a = (p, tt)
all_inserted P x (y ∷ ys) p a = go (stands_before x y) (all_inserted P x ys p a.1)
  where
    go : (v : Bool) → AllByRecursion P (inserted x ys) → AllByRecursion P (cond v (x ∷ y ∷ ys) (y ∷ inserted x ys))
    go true ih = (p, a)
    go false ih = (a.0, ih)

pub all_sorted : (P : Record → Type 0) (xs : List Record) → AllByRecursion P xs → AllByRecursion P (sorted xs)
all_sorted P [] a = tt
all_sorted P (x ∷ xs) a = all_inserted P x (sorted xs) a.0 (all_sorted P xs a.1)

pub is_less : (o : Ordering) → is_lt o ≡ true → o ≡ Less
is_less Less e = refl
is_less Equal e = absurd (true≢false (sym e))
is_less Greater e = absurd (true≢false (sym e))

pub is_greater : (o : Ordering) → is_lt o ≡ false → o ≢ Equal → o ≡ Greater
is_greater Less e n = absurd (true≢false e)
is_greater Equal e n = absurd (n refl)
is_greater Greater e n = refl

pub rising_inserted : (x : Record) (xs : List Record) → AllByRecursion (λ y. record_cmp x y ≢ Equal) xs → IsStrictlySortedBy record_cmp xs → IsStrictlySortedBy record_cmp (inserted x xs)
unfolding IsStrictlySortedBy
rising_inserted x [] d r = (tt, tt)
rising_inserted x (y ∷ ys) d r = go (stands_before x y) refl (rising_inserted x ys d.1 r.1)
  where
    go : (v : Bool) → stands_before x y ≡ v → IsStrictlySortedBy record_cmp (inserted x ys) → IsStrictlySortedBy record_cmp (cond v (x ∷ y ∷ ys) (y ∷ inserted x ys))
    go true e ih =
        let less : record_cmp x y ≡ Less = is_less (record_cmp x y) e in
        ((less, each_map (λ z. record_cmp y z ≡ Less) (λ z. record_cmp x z ≡ Less) (λ z k. record_cmp_total.trans x y z less k) ys r.0), r)
    go false e ih =
        let more : record_cmp y x ≡ Less = record_cmp_total.antisymm y x ∙ ap ordering_reverse (is_greater (record_cmp x y) e d.0) in
        (all_inserted (λ z. record_cmp y z ≡ Less) x ys more r.0, ih)

pub rising_sorted : (xs : List Record) → IsDistinct xs → IsStrictlySortedBy record_cmp (sorted xs)
unfolding IsStrictlySortedBy
rising_sorted [] d = tt
rising_sorted (x ∷ xs) d = rising_inserted x (sorted xs) (all_sorted (λ y. record_cmp x y ≢ Equal) xs d.0) (rising_sorted xs d.1)

pub distinct_filter : (p : Record → Bool) (xs : List Record) → IsDistinct xs → IsDistinct (filter p xs)
distinct_filter p [] d = tt
distinct_filter p (x ∷ xs) d = go (p x) (distinct_filter p xs d.1)
  where
    go : (v : Bool) → IsDistinct (filter p xs) → IsDistinct (cond v (x ∷ filter p xs) (filter p xs))
    go true ih = (each_filter (λ y. record_cmp x y ≢ Equal) p xs d.0, ih)
    go false ih = ih

pub in_filter : (p : Record → Bool) (xs : List Record) (u : Record) → IsIn (filter p xs) u → IsIn xs u × (p u ≡ true)
in_filter p [] u h = absurd h
in_filter p (x ∷ xs) u h = go (p x) refl h (in_filter p xs u)
  where
    go : (v : Bool) → p x ≡ v → IsIn (cond v (x ∷ filter p xs) (filter p xs)) u → (IsIn (filter p xs) u → IsIn xs u × (p u ≡ true)) → IsIn (x ∷ xs) u × (p u ≡ true)
    go true e (inl s) ih = (inl s, ap p (sym s) ∙ e)
    go true e (inr k) ih = (inr (ih k).0, (ih k).1)
    go false e k ih = (inr (ih k).0, (ih k).1)

pub filter_in : (p : Record → Bool) (xs : List Record) (u : Record) → IsIn xs u → p u ≡ true → IsIn (filter p xs) u
filter_in p [] u h e = h
filter_in p (x ∷ xs) u h e = go (p x) refl h (λ k. filter_in p xs u k e)
  where
    go : (v : Bool) → p x ≡ v → IsIn (x ∷ xs) u → (IsIn xs u → IsIn (filter p xs) u) → IsIn (cond v (x ∷ filter p xs) (filter p xs)) u
    go true t (inl s) ih = inl s
    go true t (inr k) ih = inr (ih k)
    go false t (inl s) ih = absurd (true≢false (sym e ∙ ap p (sym s) ∙ t))
    go false t (inr k) ih = ih k
