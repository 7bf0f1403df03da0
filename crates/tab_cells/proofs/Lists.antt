-- Lists of records: their members, tests and filters.
use Rattle.std.proofs.Common.{◌≡◌, ◌⊎◌, inl, inr, List, [], ◌∷◌, ◌++◌, Bool, true, false, cond, ◌&&◌, ◌||◌, refl, ap}
use Rattle.std.specs.Prelude.{filter}
use Rattle.std.specs.List.{list_any}
use Rattle.tab_key.specs.Records.{Record}
use Rattle.tab_key.specs.Sorted.{IsIn}

pub by_bool : {G : Type 0} (v : Bool) → (v ≡ true → G) → (v ≡ false → G) → G
by_bool true f g = f refl
by_bool false f g = g refl

pub and_false : (v : Bool) → (v && false) ≡ false
and_false true = refl
and_false false = refl

-- ---- members
pub in_left : (xs ys : List Record) (u : Record) → IsIn xs u → IsIn (xs ++ ys) u
in_left [] ys u h = absurd h
in_left (x ∷ xs) ys u (inl e) = inl e
in_left (x ∷ xs) ys u (inr h) = inr (in_left xs ys u h)

pub in_right : (xs ys : List Record) (u : Record) → IsIn ys u → IsIn (xs ++ ys) u
in_right [] ys u h = h
in_right (x ∷ xs) ys u h = inr (in_right xs ys u h)

pub in_append : (xs ys : List Record) (u : Record) → IsIn (xs ++ ys) u → IsIn xs u ⊎ IsIn ys u
in_append [] ys u h = inr h
in_append (x ∷ xs) ys u (inl e) = inl (inl e)
in_append (x ∷ xs) ys u (inr h) = go (in_append xs ys u h)
  where
    go : IsIn xs u ⊎ IsIn ys u → IsIn (x ∷ xs) u ⊎ IsIn ys u
    go (inl k) = inl (inr k)
    go (inr k) = inr k

-- ---- filters
pub filter_append : (p : Record → Bool) (xs ys : List Record) → filter p (xs ++ ys) ≡ filter p xs ++ filter p ys
filter_append p [] ys = refl
filter_append p (x ∷ xs) ys = go (p x) (filter_append p xs ys)
  where
    go : (v : Bool) → filter p (xs ++ ys) ≡ filter p xs ++ filter p ys → cond v (x ∷ filter p (xs ++ ys)) (filter p (xs ++ ys)) ≡ cond v (x ∷ filter p xs) (filter p xs) ++ filter p ys
    go true e = ap (λ l. x ∷ l) e
    go false e = e

pub any_filter : (seen q : Record → Bool) → ((m : Record) → seen m ≡ false → q m ≡ false) → (xs : List Record) → list_any q xs ≡ list_any q (filter seen xs)
any_filter seen q skip [] = refl
any_filter seen q skip (x ∷ xs) = go (seen x) refl (any_filter seen q skip xs)
  where
    go : (v : Bool) → seen x ≡ v → list_any q xs ≡ list_any q (filter seen xs) → (q x || list_any q xs) ≡ list_any q (cond v (x ∷ filter seen xs) (filter seen xs))
    go true e ih = ap (λ r. q x || r) ih
    go false e ih = rw (skip x e) ih

-- what a test of the seen elements keeps, and nothing else, is kept of the seen elements
pub filter_seen : (seen p q : Record → Bool) → ((m : Record) → seen m ≡ false → p m ≡ false) → ((m : Record) → seen m ≡ true → p m ≡ q m) → (xs : List Record) → filter p xs ≡ filter q (filter seen xs)
filter_seen seen p q skip same [] = refl
filter_seen seen p q skip same (x ∷ xs) = go (seen x) refl (filter_seen seen p q skip same xs)
  where
    go : (v : Bool) → seen x ≡ v → filter p xs ≡ filter q (filter seen xs) → cond (p x) (x ∷ filter p xs) (filter p xs) ≡ filter q (cond v (x ∷ filter seen xs) (filter seen xs))
    go true e ih = λ i. cond (same x e i) (x ∷ ih i) (ih i)
    go false e ih = rw (skip x e) ih
