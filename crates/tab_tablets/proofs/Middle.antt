-- The row in the middle of a tablet is one of its rows, and below another one.
use Rattle.std.proofs.Common.{◌≡◌, ◌⊎◌, inl, inr, ℕ, zero, suc, ◌<◌, ◌/◌, List, [], ◌∷◌, Bool, true, false, cond, refl, sym, ◌∙◌, ap, subst, length}
use Rattle.std.specs.Prelude.{Option, Some, None, map, filter, bytes_eq, slice_get}
use Rattle.std.specs.List.Sorted.{IsStrictlySortedBy}
use Rattle.std.specs.Ordering.{is_lt, is_le}
use Rattle.std.specs.declared.cmp.Ordering.{Ordering}
use Rattle.std.specs.declared.cmp.Ordering.TheVariants.{Less, Equal, Greater}
use Rattle.tab_key.specs.Bytes.{bytes_cmp}
use Rattle.tab_key.specs.Order.{record_cmp, place_cmp, key_cmp, column_cmp}
use Rattle.tab_key.specs.Records.{Record}
use Rattle.tab_key.specs.Sorted.{sorted, IsDistinct, IsIn}
use Rattle.tab_key.proofs.Rising.{in_sorted, rising_sorted, is_less}
use Rattle.tab_iter.specs.Lists.{IsRising}
use Rattle.tab_tablet.specs.Splitting.{last_row, below_greatest, middle_row, rows_in}
use Rattle.tab_tablet.specs.Tablets.{Tablet, is_up_to, records_in}
use Rattle.tab_tablets.specs.Places.{ended, tablet_at, IsPlaceOf, HoldOwnRows, is_end_row}
use Rattle.tab_tablets.proofs.Rows.{own_place}
use Rattle.tab_tablets.proofs.Orders.{UpTo, Below, up_to_itself, up_to_both, below_up, up_to_other, below_other}

-- ---- rows of a list
abbrev IsRow : List (List ℕ) → List ℕ → Type 0
IsRow [] r = ⊥
IsRow (x ∷ xs) r = (x ≡ r) ⊎ IsRow xs r

-- in order rows don't fall
rows_rise : (x y : Record) → record_cmp x y ≡ Less → UpTo x.key.row y.key.row
unfolding place_cmp key_cmp column_cmp
rows_rise x y e = go (bytes_cmp x.key.row y.key.row) refl
  where
    go : (o : Ordering) → bytes_cmp x.key.row y.key.row ≡ o → is_le (bytes_cmp x.key.row y.key.row) ≡ true
    go Less s = ap is_le s
    go Equal s = ap is_le s
    go Greater s = let f = rw s at e in absurd (cc)

abbrev rows_of : List Record → List (List ℕ)
rows_of us = map (λ (u : Record). u.key.row) us

row_held : (us : List Record) (r : List ℕ) → IsRow (rows_of us) r → (u : Record) × IsIn us u × (u.key.row ≡ r)
row_held [] r h = absurd h
row_held (x ∷ us) r (inl e) = (x, inl refl, e)
row_held (x ∷ us) r (inr h) = let k = row_held us r h in (k.0, inr k.1, k.2)

got_row : (rows : List (List ℕ)) (k : ℕ) (r : List ℕ) → slice_get rows k ≡ Some r → IsRow rows r
got_row [] k r e = let n : None ≡ Some r = e in absurd (cc)
got_row (x ∷ xs) zero r e = inl (cc)
got_row (x ∷ xs) (suc k) r e = inr (got_row xs k r e)

last_is_row : (rows : List (List ℕ)) (r : List ℕ) → last_row rows ≡ Some r → IsRow rows r
last_is_row [] r e = let n : None ≡ Some r = e in absurd (cc)
last_is_row (x ∷ []) r e = inl (cc)
last_is_row (x ∷ y ∷ xs) r e = inr (last_is_row (y ∷ xs) r e)

row_filtered : (p : List ℕ → Bool) (rows : List (List ℕ)) (r : List ℕ) → IsRow (filter p rows) r → IsRow rows r × (p r ≡ true)
row_filtered p [] r h = absurd h
row_filtered p (x ∷ xs) r h = go (p x) refl h (row_filtered p xs r)
  where
    go : (v : Bool) → p x ≡ v → IsRow (cond v (x ∷ filter p xs) (filter p xs)) r → (IsRow (filter p xs) r → IsRow xs r × (p r ≡ true)) → IsRow (x ∷ xs) r × (p r ≡ true)
    go true e (inl s) ih = (inl s, ap p (sym s) ∙ e)
    go true e (inr k) ih = (inr (ih k).0, (ih k).1)
    go false e k ih = (inr (ih k).0, (ih k).1)

-- no row is above the last
up_to_last : (us : List Record) (g : List ℕ) → IsRising us → last_row (rows_of us) ≡ Some g → (r : List ℕ) → IsRow (rows_of us) r → UpTo r g
unfolding IsStrictlySortedBy
up_to_last [] g s e r h = absurd h
up_to_last (x ∷ []) g s e r (inl h) = let same : x.key.row ≡ g = cc in subst (UpTo r) (sym h ∙ same) (up_to_itself r)
up_to_last (x ∷ []) g s e r (inr h) = absurd h
up_to_last (x ∷ y ∷ us) g s e r (inl h) = subst (λ q. UpTo q g) h (up_to_both x.key.row y.key.row g (rows_rise x y s.0.0) (up_to_last (y ∷ us) g s.1 e y.key.row (inl refl)))
up_to_last (x ∷ y ∷ us) g s e r (inr h) = up_to_last (y ∷ us) g s.1 e r h

-- ---- the row in the middle
abbrev IsInside : List (List ℕ) → List ℕ → Type 0
IsInside rows m = IsRow rows m × (g : List ℕ) × IsRow rows g × Below m g

inside : (us : List Record) → IsRising us → (m : List ℕ) → middle_row (rows_of us) ≡ Some m → IsInside (rows_of us) m
inside us s m e = go (slice_get (rows_of us) (length (rows_of us) / 2)) (last_row (rows_of us)) refl refl e
  where
    by_test : (a g : List ℕ) → IsRow (rows_of us) a → IsRow (rows_of us) g → UpTo a g → (v : Bool) → bytes_eq a g ≡ v → cond v (last_row (filter (λ r. is_lt (bytes_cmp r a)) (rows_of us))) (Some a) ≡ Some m → IsInside (rows_of us) m
    by_test a g ha hg up true t f =
        let k = row_filtered (λ r. is_lt (bytes_cmp r a)) (rows_of us) m (last_is_row (filter (λ r. is_lt (bytes_cmp r a)) (rows_of us)) m f) in
        (k.0, a, ha, is_less (bytes_cmp m a) k.1)
    by_test a g ha hg up false t f =
        let same : a ≡ m = cc in
        subst (IsInside (rows_of us)) same (ha, g, hg, up_to_other a g up t)

    go : (o p : Option (List ℕ)) → slice_get (rows_of us) (length (rows_of us) / 2) ≡ o → last_row (rows_of us) ≡ p → below_greatest (rows_of us) o p ≡ Some m → IsInside (rows_of us) m
    go None p a b f = let n : None ≡ Some m = f in absurd (cc)
    go (Some x) None a b f = let n : None ≡ Some m = f in absurd (cc)
    go (Some x) (Some g) a b f = by_test x g (got_row (rows_of us) (length (rows_of us) / 2) x a) (last_is_row (rows_of us) g b) (up_to_last us g s b x (got_row (rows_of us) (length (rows_of us) / 2) x a)) (bytes_eq x g) refl f

-- it is the row of a record that the tablet holds, and isn't its end row, where all its records are up to that
pub middle_held : (t : Tablet) (m : List ℕ) → IsDistinct (records_in t) → middle_row (rows_in t) ≡ Some m → (u : Record) × IsIn (records_in t) u × (u.key.row ≡ m)
middle_held t m d e =
    let k = row_held (sorted (records_in t)) m (inside (sorted (records_in t)) (rising_sorted (records_in t) d) m e).0 in
    (k.0, in_sorted (records_in t) k.0 k.1, k.2)

pub middle_no_end : (t : Tablet) (m : List ℕ) → IsDistinct (records_in t) → middle_row (rows_in t) ≡ Some m → ((u : Record) → IsIn (records_in t) u → is_up_to t.end u.key.row ≡ true) → is_end_row m t.end ≡ false
middle_no_end t m d e own =
    let h = inside (sorted (records_in t)) (rising_sorted (records_in t) d) m e in
    let k = row_held (sorted (records_in t)) h.1 h.2 in
    go t.end h.1 h.3 (ap (is_up_to t.end) (sym k.2) ∙ own k.0 (in_sorted (records_in t) k.0 k.1))
  where
    go : (o : Option (List ℕ)) (g : List ℕ) → Below m g → is_up_to o g ≡ true → is_end_row m o ≡ false
    go None g b up = refl
    go (Some x) g b up = below_other m x (below_up m g x b up)

-- ---- among the tablets of a table
module _ (ts : List Tablet) (p : ℕ) (bare : Tablet) (m : List ℕ) (own : HoldOwnRows ts) (lt : p < length ts) (is : ended (tablet_at ts p).end bare ≡ tablet_at ts p) (d : IsDistinct (records_in bare)) (e : Some m ≡ middle_row (rows_in bare)) where
  once : IsDistinct (records_in (tablet_at ts p))
  once = subst (λ (t : Tablet). IsDistinct (records_in t)) is d

  middle_is : middle_row (rows_in (tablet_at ts p)) ≡ Some m
  middle_is = ap (λ (t : Tablet). middle_row (rows_in t)) (sym is) ∙ sym e

  -- that tablet is the one of the row
  pub middle_place : IsPlaceOf m ts p
  middle_place = let k = middle_held (tablet_at ts p) m once middle_is in subst (λ r. IsPlaceOf r ts p) k.2 (own_place ts p k.0 own lt k.1)

  -- and the row isn't its end row
  pub middle_fresh : is_end_row m (tablet_at ts p).end ≡ false
  middle_fresh = middle_no_end (tablet_at ts p) m once middle_is (λ u k. (own_place ts p u own lt k).holds)
