-- The order of end rows, and the one tablet that holds a row.
use Rattle.std.proofs.Common.{◌≡◌, ℕ, zero, suc, ◌+◌, ◌-◌, ◌≤◌, ◌<◌, List, [], ◌∷◌, ◌++◌, Bool, true, false, not, cond, ◌||◌, refl, sym, ◌∙◌, ap, length, get_or, arith}
use Rattle.std.specs.Prelude.{Option, Some, None, bytes_eq}
use Rattle.std.specs.List.{AllByRecursion, list_any, cons_option}
use Rattle.std.specs.List.Sorted.{IsPartitionedBy, IsPartitionPoint}
use Rattle.std.proofs.lemmas.List.{get_or_append_left, get_or-append-add, length-append}
use Rattle.std.proofs.lemmas.List.Elements.{All-from_recursion}
use mathlib.Core.Bool.{true≢false}
use Rattle.tab_cells.proofs.Lists.{by_bool}
use Rattle.tab_tablet.specs.Tablets.{Tablet, is_up_to, new_tablet}
use Rattle.tab_tablets.specs.ByRow.{EndsBefore, AreWhole, at_row, tablet_of, ends_of, is_end}
use Rattle.tab_tablets.specs.Places.{tablet_at, IsPlaceOf, at_place, is_end_row}
use Rattle.tab_tablets.proofs.Orders.{UpTo, up_to_both, up_to_below, below_up_to, below_other, above_other}

-- ---- one end row and the next
-- a row up to one is up to the next, and isn't that
next_up : (e f : Option (List ℕ)) (row : List ℕ) → EndsBefore e f → is_up_to e row ≡ true → is_up_to f row ≡ true
next_up None f row b h = absurd b
next_up (Some e) None row b h = refl
next_up (Some e) (Some f) row b h = below_up_to row f (up_to_below row e f h b)

next_other : (e f : Option (List ℕ)) (row : List ℕ) → EndsBefore e f → is_up_to e row ≡ true → is_end_row row f ≡ false
next_other None f row b h = absurd b
next_other (Some e) None row b h = refl
next_other (Some e) (Some f) row b h = below_other row f (up_to_below row e f h b)

-- a row that isn't up to one isn't that
over_other : (e : Option (List ℕ)) (row : List ℕ) → is_up_to e row ≡ false → is_end_row row e ≡ false
over_other None row h = refl
over_other (Some e) row h = above_other row e h

-- a row up to one that is up to it is so too
pub lower_up : (o : Option (List ℕ)) (low row : List ℕ) → UpTo low row → is_up_to o row ≡ true → is_up_to o low ≡ true
lower_up None low row p h = refl
lower_up (Some e) low row p h = up_to_both low row e p h

-- ---- all later tablets
pub later_up : (t : Tablet) (ts : List Tablet) (row : List ℕ) → AreWhole (t ∷ ts) → is_up_to t.end row ≡ true → AllByRecursion (λ (s : Tablet). is_up_to s.end row ≡ true) ts
later_up t [] row w h = tt
later_up t (s ∷ ts) row w h = let k = next_up t.end s.end row w.0 h in (k, later_up s ts row w.1 k)

-- ---- the search by halves
pub parted : (row : List ℕ) (lower : List Tablet) (x : Tablet) → AreWhole (lower ++ x ∷ []) → IsPartitionedBy (λ (t : Tablet). not (is_up_to t.end row)) lower
parted row [] x w i j d le lt h = absurd (omega arith)
parted row (t ∷ ts) x w zero j d le lt h = by_bool (is_up_to t.end row) (λ up. absurd (true≢false (sym h ∙ ap not (all_up up j lt)))) (λ over. ap not over)
  where
    front : (xs : List Tablet) → AllByRecursion (λ (s : Tablet). is_up_to s.end row ≡ true) (xs ++ x ∷ []) → AllByRecursion (λ (s : Tablet). is_up_to s.end row ≡ true) xs
    front [] a = tt
    front (y ∷ ys) a = (a.0, front ys a.1)

    all_up : is_up_to t.end row ≡ true → (k : ℕ) → k < length (t ∷ ts) → is_up_to (get_or (t ∷ ts) k d).end row ≡ true
    all_up up k = All-from_recursion (λ (s : Tablet). is_up_to s.end row ≡ true) (t ∷ ts) (up, front ts (later_up t (ts ++ x ∷ []) row w up)) k d
parted row (t ∷ ts) x w (suc i) zero d le lt h = absurd (omega arith)
parted row (t ∷ []) x w (suc i) (suc j) d le lt h = absurd (omega arith)
parted row (t ∷ s ∷ ts) x w (suc i) (suc j) d le lt h = parted row (s ∷ ts) x w.1 i j d (omega arith) (omega arith) h

not_true : (v : Bool) → not v ≡ true → v ≡ false
not_true true e = absurd (true≢false (sym e))
not_true false e = refl

not_false : (v : Bool) → not v ≡ false → v ≡ true
not_false true e = refl
not_false false e = absurd (true≢false e)

pub found : (row : List ℕ) (lower : List Tablet) (x : Tablet) (p : ℕ) → x.end ≡ None → p ≤ length lower
    → IsPartitionPoint (λ (t : Tablet). not (is_up_to t.end row) ≡ true) (λ (t : Tablet). not (is_up_to t.end row) ≡ false) lower p → IsPlaceOf row (lower ++ x ∷ []) p
found row lower x p none within point = record {
  inside = let l = length-append lower (x ∷ []) in omega (arith, l);
  holds = go (length lower - p) refl;
  first = λ k lt. let below : k < length lower = omega arith in ap (λ (t : Tablet). is_up_to t.end row) (get_or_append_left lower (x ∷ []) (new_tablet 0 None) k below) ∙ not_true _ (point.0 k (new_tablet 0 None) (omega arith) lt);
}
  where
    go : (n : ℕ) → length lower - p ≡ n → is_up_to (tablet_at (lower ++ x ∷ []) p).end row ≡ true
    go zero e =
        let is : p ≡ length lower + 0 = omega arith in
        ap (λ k. is_up_to (tablet_at (lower ++ x ∷ []) k).end row) is ∙ ap (λ (t : Tablet). is_up_to t.end row) (get_or-append-add lower (x ∷ []) 0 (new_tablet 0 None)) ∙ ap (λ o. is_up_to o row) none
    go (suc n) e = let lt : p < length lower = omega arith in ap (λ (t : Tablet). is_up_to t.end row) (get_or_append_left lower (x ∷ []) (new_tablet 0 None) p lt) ∙ not_false _ (point.1 p (new_tablet 0 None) (omega arith) lt)

-- ---- a row's place
pub later_place : (row : List ℕ) (t : Tablet) (ts : List Tablet) (p : ℕ) → IsPlaceOf row (t ∷ ts) (suc p) → IsPlaceOf row ts p
later_place row t ts p h = record { inside = let i = h.inside in omega (arith, i); holds = h.holds; first = λ k lt. h.first (suc k) (omega arith) }

pub first_over : (row : List ℕ) (t : Tablet) (ts : List Tablet) (p : ℕ) → IsPlaceOf row (t ∷ ts) (suc p) → is_up_to t.end row ≡ false
first_over row t ts p h = h.first 0 (omega arith)

-- the first tablet's, where the row is up to its end row
pub first_place : (row : List ℕ) (t : Tablet) (ts : List Tablet) → is_up_to t.end row ≡ true → IsPlaceOf row (t ∷ ts) 0
first_place row t ts up = record { inside = omega arith; holds = up; first = λ k lt. absurd (omega arith) }

-- and one behind that among the later ones, where it isn't
pub next_place : (row : List ℕ) (t : Tablet) (ts : List Tablet) (p : ℕ) → is_up_to t.end row ≡ false → IsPlaceOf row ts p → IsPlaceOf row (t ∷ ts) (suc p)
next_place row t ts p over h = record { inside = let i = h.inside in omega (arith, i); holds = h.holds; first = none }
  where
    none : (k : ℕ) → k < suc p → is_up_to (tablet_at (t ∷ ts) k).end row ≡ false
    none zero lt = over
    none (suc k) lt = h.first k (omega arith)

-- each row has one
pub has_place : (row : List ℕ) (ts : List Tablet) → AreWhole ts → (p : ℕ) × IsPlaceOf row ts p
has_place row [] w = absurd w
has_place row (t ∷ []) w = (0, first_place row t [] (ap (λ o. is_up_to o row) w))
has_place row (t ∷ s ∷ ts) w = by_bool (is_up_to t.end row)
    (λ up. (0, first_place row t (s ∷ ts) up))
    (λ over. let k = has_place row (s ∷ ts) w.1 in (suc k.0, next_place row t (s ∷ ts) k.0 over k.1))

-- what is done at the row's tablet is done at its place
pub row_at_place : (row : List ℕ) (f : Tablet → List Tablet) (ts : List Tablet) (p : ℕ) → IsPlaceOf row ts p → at_row row f ts ≡ at_place p f ts
row_at_place row f [] p h = let i = h.inside in absurd (omega (arith, i))
row_at_place row f (t ∷ ts) zero h = ap (λ v. cond v (f t ++ ts) (t ∷ at_row row f ts)) h.holds
row_at_place row f (t ∷ ts) (suc p) h = ap (λ v. cond v (f t ++ ts) (t ∷ at_row row f ts)) (first_over row t ts p h) ∙ ap (λ l. t ∷ l) (row_at_place row f ts p (later_place row t ts p h))

pub tablet_at_place : (row : List ℕ) (ts : List Tablet) (p : ℕ) → IsPlaceOf row ts p → tablet_of row ts ≡ Some (tablet_at ts p)
tablet_at_place row [] p h = let i = h.inside in absurd (omega (arith, i))
tablet_at_place row (t ∷ ts) zero h = ap (λ v. cond v (Some t) (tablet_of row ts)) h.holds
tablet_at_place row (t ∷ ts) (suc p) h = ap (λ v. cond v (Some t) (tablet_of row ts)) (first_over row t ts p h) ∙ tablet_at_place row ts p (later_place row t ts p h)

-- ---- end rows
end_cons : (row : List ℕ) (o : Option (List ℕ)) (rest : List (List ℕ)) → list_any (bytes_eq row) (cons_option o rest) ≡ (is_end_row row o || list_any (bytes_eq row) rest)
end_cons row None rest = refl
end_cons row (Some e) rest = refl

none_later : (t : Tablet) (ts : List Tablet) (row : List ℕ) → AreWhole (t ∷ ts) → is_up_to t.end row ≡ true → is_end row ts ≡ false
none_later t [] row w h = refl
none_later t (s ∷ ts) row w h = end_cons row s.end (ends_of ts) ∙ (λ i. next_other t.end s.end row w.0 h i || none_later s ts row w.1 (next_up t.end s.end row w.0 h) i)

or_false : (v : Bool) → (v || false) ≡ v
or_false true = refl
or_false false = refl

-- whether the row is an end is asked of its tablet alone
pub end_at_place : (row : List ℕ) (ts : List Tablet) (p : ℕ) → AreWhole ts → IsPlaceOf row ts p → is_end row ts ≡ is_end_row row (tablet_at ts p).end
end_at_place row [] p w h = absurd w
end_at_place row (t ∷ ts) zero w h = end_cons row t.end (ends_of ts) ∙ ap (λ v. is_end_row row t.end || v) (none_later t ts row w h.holds) ∙ or_false (is_end_row row t.end)
end_at_place row (t ∷ []) (suc p) w h = let i = h.inside in absurd (omega (arith, i))
end_at_place row (t ∷ s ∷ ts) (suc p) w h = end_cons row t.end (ends_of (s ∷ ts)) ∙ ap (λ v. v || is_end row (s ∷ ts)) (over_other t.end row (first_over row t (s ∷ ts) p h)) ∙ end_at_place row (s ∷ ts) p w.1 (later_place row t (s ∷ ts) p h)

-- all tablets but the last have one
pub ends_count : (ts : List Tablet) → AreWhole ts → length (ends_of ts) + 1 ≡ length ts
ends_count [] w = absurd w
ends_count (t ∷ []) w = ap (λ o. length (cons_option o []) + 1) w
ends_count (t ∷ s ∷ ts) w = go t.end w.0 (ends_count (s ∷ ts) w.1)
  where
    go : (o : Option (List ℕ)) → EndsBefore o s.end → length (ends_of (s ∷ ts)) + 1 ≡ length (s ∷ ts) → length (cons_option o (ends_of (s ∷ ts))) + 1 ≡ length (t ∷ s ∷ ts)
    go None b e = absurd b
    go (Some x) b e = omega (arith, e)
