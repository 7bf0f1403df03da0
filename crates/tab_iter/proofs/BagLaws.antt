-- What follows of several lists as one rising list.
use Rattle.std.proofs.Common.{◌≡◌, ◌≢◌, ◌⊎◌, inl, inr, ℕ, zero, suc, ◌<◌, List, [], ◌∷◌, ◌++◌, Bool, true, false, cond, not, refl, sym, ◌∙◌, ap, subst, append_assoc, length, get_or, set, map, arith, Option, Some, None}
use Rattle.std.specs.Prelude.{filter}
use Rattle.std.specs.Cmp.{tied_back}
use Rattle.std.specs.Ordering.{is_lt, ordering_reverse}
use Rattle.std.specs.declared.cmp.Ordering.TheVariants.{Less, Equal}
use mathlib.Core.Bool.{true≢false}
use Rattle.std.proofs.lemmas.List.Elements.{filter-append}
use Rattle.std.proofs.lemmas.List.Kept.{IsStrictlySortedBy-filter}
use Rattle.tab_key.specs.Order.{record_cmp, key_cmp, stands_before}
use Rattle.tab_key.proofs.Order.{record_cmp_total}
use Rattle.tab_key.specs.Records.{Key, Record}
use Rattle.tab_key.specs.Sorted.{inserted, sorted, IsDistinct, IsIn}
use Rattle.tab_key.proofs.Rising.{all_in, same_rising, in_sorted, sorted_in, is_less, is_greater, rising_sorted, distinct_filter, in_filter, filter_in}
use Rattle.tab_cells.proofs.Lists.{by_bool, in_append, in_left, in_right}
use Rattle.tab_iter.specs.Lists.{first_of, tail, from_key, IsRising, IsEnd}
use Rattle.tab_iter.specs.Bags.{flat, IsFirstAt}
use Rattle.tab_iter.proofs.ListLaws.{each_in, rises_more, first_less, later_rises, key_before, rising_end}

-- ---- records at places of their own
pub distinct_more : (x : Record) (xs : List Record) → ((u : Record) → IsIn xs u → record_cmp x u ≢ Equal) → IsDistinct xs → IsDistinct (x ∷ xs)
distinct_more x xs f d = (each_in (λ u. record_cmp x u ≢ Equal) xs f, d)

pub distinct_first : (x : Record) (xs : List Record) → IsDistinct (x ∷ xs) → (u : Record) → IsIn xs u → record_cmp x u ≢ Equal
distinct_first x xs d u h = all_in (λ v. record_cmp x v ≢ Equal) xs d.0 u h

-- ---- sorting
pub more_less : (x y : Record) → is_lt (record_cmp x y) ≡ false → record_cmp x y ≢ Equal → record_cmp y x ≡ Less
more_less x y e n = record_cmp_total.antisymm y x ∙ ap ordering_reverse (is_greater (record_cmp x y) e n)

-- filtering and sorting change places
pub sorted_filter : (p : Record → Bool) (xs : List Record) → IsDistinct xs → sorted (filter p xs) ≡ filter p (sorted xs)
sorted_filter p xs d = same_rising (sorted (filter p xs)) (filter p (sorted xs)) (rising_sorted (filter p xs) (distinct_filter p xs d)) (IsStrictlySortedBy-filter record_cmp p (sorted xs) (rising_sorted xs d))
    (λ u h. let k = in_filter p xs u (in_sorted (filter p xs) u h) in filter_in p (sorted xs) u (sorted_in xs u k.0) k.1)
    (λ u h. let k = in_filter p (sorted xs) u h in sorted_in (filter p xs) u (filter_in p xs u (in_sorted xs u k.0) k.1))

length_inserted : (p : Record → Bool) (x : Record) (xs : List Record) → length (filter p (inserted x xs)) ≡ length (filter p (x ∷ xs))
length_inserted p x [] = refl
length_inserted p x (y ∷ ys) = go (stands_before x y) (length_inserted p x ys)
  where
    swap : (v w : Bool) (l : List Record) → length (cond v (y ∷ cond w (x ∷ l) l) (cond w (x ∷ l) l)) ≡ length (cond w (x ∷ cond v (y ∷ l) l) (cond v (y ∷ l) l))
    swap true true l = refl
    swap true false l = refl
    swap false true l = refl
    swap false false l = refl

    more : (v : Bool) → length (filter p (inserted x ys)) ≡ length (filter p (x ∷ ys)) → length (cond v (y ∷ filter p (inserted x ys)) (filter p (inserted x ys))) ≡ length (cond v (y ∷ filter p (x ∷ ys)) (filter p (x ∷ ys)))
    more true e = ap suc e
    more false e = e

    go : (v : Bool) → length (filter p (inserted x ys)) ≡ length (filter p (x ∷ ys)) → length (filter p (cond v (x ∷ y ∷ ys) (y ∷ inserted x ys))) ≡ length (filter p (x ∷ y ∷ ys))
    go true ih = refl
    go false ih = more (p y) ih ∙ swap (p y) (p x) (filter p ys)

-- as many pass of the sorted list
pub length_sorted : (p : Record → Bool) (xs : List Record) → length (filter p (sorted xs)) ≡ length (filter p xs)
length_sorted p [] = refl
length_sorted p (x ∷ xs) = length_inserted p x (sorted xs) ∙ go (p x) (length_sorted p xs)
  where
    go : (v : Bool) → length (filter p (sorted xs)) ≡ length (filter p xs) → length (cond v (x ∷ filter p (sorted xs)) (filter p (sorted xs))) ≡ length (cond v (x ∷ filter p xs) (filter p xs))
    go true e = ap suc e
    go false e = e

-- ---- seeks
-- of a rising list, what is left from the first record that isn't before the key on are those that aren't
pub from_key_filters : (k : Key) (xs : List Record) → IsRising xs → from_key k xs ≡ filter (λ r. not (is_lt (key_cmp r.key k))) xs
from_key_filters k [] r = refl
from_key_filters k (x ∷ xs) r = go (is_lt (key_cmp x.key k)) refl (from_key_filters k xs (later_rises x xs r))
  where
    all_pass : (ys : List Record) → ((u : Record) → IsIn ys u → is_lt (key_cmp u.key k) ≡ false) → filter (λ r. not (is_lt (key_cmp r.key k))) ys ≡ ys
    all_pass [] f = refl
    all_pass (y ∷ ys) f = rw (f y (inl refl)) (ap (λ l. y ∷ l) (all_pass ys (λ u h. f u (inr h))))

    go : (v : Bool) → is_lt (key_cmp x.key k) ≡ v → from_key k xs ≡ filter (λ r. not (is_lt (key_cmp r.key k))) xs → cond v (from_key k xs) (x ∷ xs) ≡ cond (not v) (x ∷ filter (λ r. not (is_lt (key_cmp r.key k))) xs) (filter (λ r. not (is_lt (key_cmp r.key k))) xs)
    go true e ih = ih
    go false e ih = ap (λ l. x ∷ l) (sym (all_pass xs (λ u h. by_bool (is_lt (key_cmp u.key k)) (λ t. absurd (true≢false (sym (key_before x u k (first_less x xs r u h) t) ∙ e))) (λ t. t))))

abbrev pub EachRises : List (List Record) → Type 0
EachRises [] = Unit {0}
EachRises (w ∷ ws) = IsRising w × EachRises ws

flat_filter : (f : List Record → List Record) (p : Record → Bool) → ((w : List Record) → IsRising w → f w ≡ filter p w) → (ws : List (List Record)) → EachRises ws → flat (map f ws) ≡ filter p (flat ws)
flat_filter f p same [] r = refl
flat_filter f p same (w ∷ ws) r = (λ i. same w r.0 i ++ flat_filter f p same ws r.1 i) ∙ sym (filter-append p w (flat ws))

sought : (f : List Record → List Record) (p : Record → Bool) → ((w : List Record) → IsRising w → f w ≡ filter p w) → (ws : List (List Record)) → EachRises ws → IsDistinct (flat ws) → sorted (flat (map f ws)) ≡ f (sorted (flat ws))
sought f p same ws r d = ap sorted (flat_filter f p same ws r) ∙ sorted_filter p (flat ws) d ∙ sym (same (sorted (flat ws)) (rising_sorted (flat ws) d))

pub sought_key : (k : Key) (ws : List (List Record)) → EachRises ws → IsDistinct (flat ws) → sorted (flat (map (from_key k) ws)) ≡ from_key k (sorted (flat ws))
sought_key k ws r d = sought (from_key k) (λ r. not (is_lt (key_cmp r.key k))) (from_key_filters k) ws r d

-- ---- ends of several lists
pub apart_left : (xs ys : List Record) → IsDistinct (xs ++ ys) → IsDistinct xs
apart_left [] ys d = tt
apart_left (x ∷ xs) ys d = distinct_more x xs (λ u h. distinct_first x (xs ++ ys) d u (in_left xs ys u h)) (apart_left xs ys d.1)

pub apart_right : (xs ys : List Record) → IsDistinct (xs ++ ys) → IsDistinct ys
apart_right [] ys d = d
apart_right (x ∷ xs) ys d = apart_right xs ys d.1

abbrev pub EachEnds : List (List Record) → List (List Record) → Type 0
EachEnds [] [] = Unit {0}
EachEnds [] (w ∷ ws) = ⊥
EachEnds (r ∷ rs) [] = ⊥
EachEnds (r ∷ rs) (w ∷ ws) = IsEnd r w × EachEnds rs ws

flat_in : (rs ws : List (List Record)) → EachEnds rs ws → (u : Record) → IsIn (flat rs) u → IsIn (flat ws) u
flat_in [] [] e u h = h
flat_in [] (w ∷ ws) e u h = absurd e
flat_in (r ∷ rs) [] e u h = absurd e
flat_in (r ∷ rs) (w ∷ ws) e u h = go (in_append r (flat rs) u h) (flat_in rs ws e.1 u)
  where
    go : IsIn r u ⊎ IsIn (flat rs) u → (IsIn (flat rs) u → IsIn (flat ws) u) → IsIn (w ++ flat ws) u
    go (inl a) ih = in_left w (flat ws) u (subst (λ l. IsIn l u) e.0.whole (in_right e.0.passed r u a))
    go (inr b) ih = in_right w (flat ws) u (ih b)

apart_cross : (xs ys : List Record) → IsDistinct (xs ++ ys) → (x y : Record) → IsIn xs x → IsIn ys y → record_cmp x y ≢ Equal
apart_cross [] ys d x y h k = absurd h
apart_cross (z ∷ xs) ys d x y (inl e) k = subst (λ t. record_cmp t y ≢ Equal) e (distinct_first z (xs ++ ys) d y (in_right xs ys y k))
apart_cross (z ∷ xs) ys d x y (inr h) k = apart_cross xs ys d.1 x y h k

pub apart_join : (xs ys : List Record) → IsDistinct xs → IsDistinct ys → ((x y : Record) → IsIn xs x → IsIn ys y → record_cmp x y ≢ Equal) → IsDistinct (xs ++ ys)
apart_join [] ys a b f = b
apart_join (x ∷ xs) ys a b f = distinct_more x (xs ++ ys) (λ u h. go u (in_append xs ys u h)) (apart_join xs ys a.1 b (λ y z h k. f y z (inr h) k))
  where
    go : (u : Record) → IsIn xs u ⊎ IsIn ys u → record_cmp x u ≢ Equal
    go u (inl h) = distinct_first x xs a u h
    go u (inr k) = f x u (inl refl) k

pub apart_ends : (rs ws : List (List Record)) → EachEnds rs ws → IsDistinct (flat ws) → IsDistinct (flat rs)
apart_ends [] [] e d = d
apart_ends [] (w ∷ ws) e d = absurd e
apart_ends (r ∷ rs) [] e d = absurd e
apart_ends (r ∷ rs) (w ∷ ws) e d =
    apart_join r (flat rs)
    (apart_right e.0.passed r (subst IsDistinct (sym e.0.whole) (apart_left w (flat ws) d)))
    (apart_ends rs ws e.1 (apart_right w (flat ws) d))
    (λ x y h k. apart_cross w (flat ws) d x y (subst (λ l. IsIn l x) e.0.whole (in_right e.0.passed r x h)) (flat_in rs ws e.1 y k))

pub each_ends : {S : Type 0} (rest whole : S → List Record) → ((s : S) → IsEnd (rest s) (whole s)) → (ss : List S) → EachEnds (map rest ss) (map whole ss)
each_ends rest whole f [] = tt
each_ends rest whole f (s ∷ ss) = (f s, each_ends rest whole f ss)

pub each_rises : {S : Type 0} (f : S → List Record) → ((s : S) → IsRising (f s)) → (ss : List S) → EachRises (map f ss)
each_rises f r [] = tt
each_rises f r (s ∷ ss) = (r s, each_rises f r ss)

rise_ends : (rs ws : List (List Record)) → EachEnds rs ws → EachRises ws → EachRises rs
rise_ends [] [] e r = tt
rise_ends [] (w ∷ ws) e r = tt
rise_ends (x ∷ rs) [] e r = absurd e
rise_ends (x ∷ rs) (w ∷ ws) e r = (rising_end x w e.0 r.0, rise_ends rs ws e.1 r.1)

-- ---- the least first record
-- r is dropped from xs, which leaves ys
record Drops (r : Record) (xs ys : List Record) : Type 0 where
  pub front : List Record
  pub back : List Record
  pub before : xs ≡ front ++ (r ∷ back)
  pub after : ys ≡ front ++ back

none_some : {r : Record} → let N : Option Record = None in N ≡ Some r → ⊥
none_some e = cc

drops_at : (xss : List (List Record)) (b : ℕ) (r : Record) → first_of (get_or xss b []) ≡ Some r → Drops r (flat xss) (flat (set xss b (tail (get_or xss b []))))
drops_at [] b r e = absurd (none_some e)
drops_at ([] ∷ xss) zero r e = absurd (none_some e)
drops_at ((x ∷ xs) ∷ xss) zero r e = let s : x ≡ r = cc in record { front = []; back = xs ++ flat xss; before = ap (λ t. t ∷ (xs ++ flat xss)) s; after = refl }
drops_at (xs ∷ xss) (suc b) r e = go (drops_at xss b r e)
  where
    go : Drops r (flat xss) (flat (set xss b (tail (get_or xss b [])))) → Drops r (xs ++ flat xss) (xs ++ flat (set xss b (tail (get_or xss b []))))
    go d = record { front = xs ++ d.front; back = d.back; before = ap (λ l. xs ++ l) d.before ∙ sym (append_assoc xs d.front (r ∷ d.back)); after = ap (λ l. xs ++ l) d.after ∙ sym (append_assoc xs d.front d.back) }

-- no member of a rising list stands before its first
not_under : (r : Record) (xs : List Record) → IsRising xs → ((t : Record) → first_of xs ≡ Some t → is_lt (record_cmp t r) ≡ false) → (u : Record) → IsIn xs u → is_lt (record_cmp u r) ≡ false
not_under r [] up f u h = absurd h
not_under r (x ∷ xs) up f u (inl e) = subst (λ z. is_lt (record_cmp z r) ≡ false) e (f x refl)
not_under r (x ∷ xs) up f u (inr h) = by_bool (is_lt (record_cmp u r)) (λ t. absurd (true≢false (sym (ap is_lt (record_cmp_total.trans x u r (first_less x xs up u h) (is_less (record_cmp u r) t))) ∙ f x refl))) (λ t. t)

none_under : (r : Record) (xss : List (List Record)) → EachRises xss → ((k : ℕ) (t : Record) → k < length xss → first_of (get_or xss k []) ≡ Some t → is_lt (record_cmp t r) ≡ false) → (u : Record) → IsIn (flat xss) u → is_lt (record_cmp u r) ≡ false
none_under r [] up f u h = absurd h
none_under r (xs ∷ xss) up f u h = go (in_append xs (flat xss) u h) (none_under r xss up.1 (λ k t lt e. f (suc k) t (omega arith) e) u)
  where
    go : IsIn xs u ⊎ IsIn (flat xss) u → (IsIn (flat xss) u → is_lt (record_cmp u r) ≡ false) → is_lt (record_cmp u r) ≡ false
    go (inl a) ih = not_under r xs up.0 (λ t e. f 0 t (omega arith) e) u a
    go (inr b) ih = ih b

-- dropping the least of a list drops the first of its order
sorted_drops : (r : Record) (xs ys : List Record) → Drops r xs ys → IsDistinct xs → ((u : Record) → IsIn xs u → is_lt (record_cmp u r) ≡ false) → sorted xs ≡ r ∷ sorted ys
sorted_drops r xs ys d a f = same_rising (sorted xs) (r ∷ sorted ys) (rising_sorted xs a) (rises_more r (sorted ys) (λ u h. under u (in_sorted ys u h)) (rising_sorted ys apart_ys)) to from
  where
    apart_all : IsDistinct (d.front ++ (r ∷ d.back))
    apart_all = subst IsDistinct d.before a

    apart_ys : IsDistinct ys
    apart_ys = subst IsDistinct (sym d.after) (apart_join d.front d.back (apart_left d.front (r ∷ d.back) apart_all) (apart_right d.front (r ∷ d.back) apart_all).1 (λ x y h k. apart_cross d.front (r ∷ d.back) apart_all x y h (inr k)))

    ys_xs : (u : Record) → IsIn ys u → IsIn xs u
    ys_xs u h = subst (λ l. IsIn l u) (sym d.before) (go (in_append d.front d.back u (subst (λ l. IsIn l u) d.after h)))
      where
        go : IsIn d.front u ⊎ IsIn d.back u → IsIn (d.front ++ (r ∷ d.back)) u
        go (inl a) = in_left d.front (r ∷ d.back) u a
        go (inr b) = in_right d.front (r ∷ d.back) u (inr b)

    untied : (u : Record) → IsIn ys u → record_cmp u r ≢ Equal
    untied u h = go (in_append d.front d.back u (subst (λ l. IsIn l u) d.after h))
      where
        go : IsIn d.front u ⊎ IsIn d.back u → record_cmp u r ≢ Equal
        go (inl a) = apart_cross d.front (r ∷ d.back) apart_all u r a (inl refl)
        go (inr b) = λ e. distinct_first r d.back (apart_right d.front (r ∷ d.back) apart_all) u b (tied_back record_cmp_total u r e)

    under : (u : Record) → IsIn ys u → record_cmp r u ≡ Less
    under u h = more_less u r (f u (ys_xs u h)) (untied u h)

    to : (u : Record) → IsIn (sorted xs) u → IsIn (r ∷ sorted ys) u
    to u h = go (in_append d.front (r ∷ d.back) u (subst (λ l. IsIn l u) d.before (in_sorted xs u h)))
      where
        go : IsIn d.front u ⊎ IsIn (r ∷ d.back) u → (r ≡ u) ⊎ IsIn (sorted ys) u
        go (inl a) = inr (sorted_in ys u (subst (λ l. IsIn l u) (sym d.after) (in_left d.front d.back u a)))
        go (inr (inl e)) = inl e
        go (inr (inr b)) = inr (sorted_in ys u (subst (λ l. IsIn l u) (sym d.after) (in_right d.front d.back u b)))

    from : (u : Record) → (r ≡ u) ⊎ IsIn (sorted ys) u → IsIn (sorted xs) u
    from u (inl e) = sorted_in xs u (subst (λ l. IsIn l u) (sym d.before) (in_right d.front (r ∷ d.back) u (inl e)))
    from u (inr h) = sorted_in xs u (ys_xs u (in_sorted ys u h))

-- what the place of the least first record says of the merged list
pub least_sorted : (rs ws : List (List Record)) (b : ℕ) → EachEnds rs ws → EachRises ws → IsDistinct (flat ws) → (l : IsFirstAt rs (length rs) b) → sorted (flat rs) ≡ l.first ∷ sorted (flat (set rs b (tail (get_or rs b []))))
least_sorted rs ws b e up d l = sorted_drops l.first (flat rs) _ (drops_at rs b l.first l.is) (apart_ends rs ws e d) (none_under l.first rs (rise_ends rs ws e up) l.least)

flat_empty : (rs : List (List Record)) → ((k : ℕ) → k < length rs → get_or rs k [] ≡ []) → flat rs ≡ []
flat_empty [] f = refl
flat_empty (r ∷ rs) f = λ i. f 0 (omega arith) i ++ flat_empty rs (λ k lt. f (suc k) (omega arith)) i

pub none_sorted : (rs : List (List Record)) → ((k : ℕ) → k < length rs → get_or rs k [] ≡ []) → sorted (flat rs) ≡ []
none_sorted rs f = ap sorted (flat_empty rs f)
