-- Each row has one tablet still.
use Rattle.std.proofs.Common.{◌≡◌, ℕ, zero, suc, List, [], ◌∷◌, true, false, refl, sym, ap, subst}
use Rattle.std.specs.Prelude.{Option, Some, None, map}
use mathlib.Core.Bool.{true≢false}
use Rattle.tab_tablet.specs.Tablets.{Tablet, is_up_to}
use Rattle.tab_tablet.specs.Splitting.{split_at}
use Rattle.tab_tablets.specs.ByRow.{EndsBefore, EndsRise, AreWhole}
use Rattle.tab_tablets.specs.Places.{tablet_at, IsPlaceOf, at_place, is_end_row}
use Rattle.tab_tablets.proofs.Orders.{above, up_to_other}
use Rattle.tab_tablets.proofs.EndRows.{first_over, later_place}
use Rattle.tab_tablets.proofs.At.{one}

-- ---- the same end rows
abbrev all_ends : List Tablet → List (Option (List ℕ))
all_ends ts = map (λ (t : Tablet). t.end) ts

ends_map : (f : Tablet → Tablet) → ((t : Tablet) → (f t).end ≡ t.end) → (ts : List Tablet) → all_ends (map f ts) ≡ all_ends ts
ends_map f ends [] = refl
ends_map f ends (t ∷ ts) = λ i. ends t i ∷ ends_map f ends ts i

ends_one : (f : Tablet → Tablet) → ((t : Tablet) → (f t).end ≡ t.end) → (ts : List Tablet) (p : ℕ) → all_ends (at_place p (one f) ts) ≡ all_ends ts
ends_one f ends [] p = refl
ends_one f ends (t ∷ ts) zero = ap (λ e. e ∷ all_ends ts) (ends t)
ends_one f ends (t ∷ ts) (suc p) = ap (λ es. t.end ∷ es) (ends_one f ends ts p)

pub whole_map : (f : Tablet → Tablet) → ((t : Tablet) → (f t).end ≡ t.end) → (ts : List Tablet) → AreWhole ts → AreWhole (map f ts)
whole_map f ends ts w = subst EndsRise (sym (ends_map f ends ts)) w

pub whole_one : (f : Tablet → Tablet) → ((t : Tablet) → (f t).end ≡ t.end) → (ts : List Tablet) (p : ℕ) → AreWhole ts → AreWhole (at_place p (one f) ts)
whole_one f ends ts p w = subst EndsRise (sym (ends_one f ends ts p)) w

-- ---- one more
-- a row that is up to an end row, and isn't that, is an end row before it
end_before : (row : List ℕ) (o : Option (List ℕ)) → is_up_to o row ≡ true → is_end_row row o ≡ false → EndsBefore (Some row) o
end_before row None up other = tt
end_before row (Some e) up other = up_to_other row e up other

-- one that isn't up to an end row is one after it
end_behind : (row : List ℕ) (o : Option (List ℕ)) → is_up_to o row ≡ false → EndsBefore o (Some row)
end_behind row None over = absurd (true≢false over)
end_behind row (Some e) over = above row e over

pub whole_split : (row : List ℕ) (number : ℕ) (ts : List Tablet) (p : ℕ) → IsPlaceOf row ts p → is_end_row row (tablet_at ts p).end ≡ false → AreWhole ts → AreWhole (at_place p (split_at row number) ts)
whole_split row number [] p h n w = w
whole_split row number (t ∷ ts) zero h n w = (end_before row t.end h.holds n, w)
whole_split row number (t ∷ []) (suc p) h n w = w
whole_split row number (t ∷ s ∷ ts) (suc zero) h n w = (end_behind row t.end (first_over row t (s ∷ ts) zero h), whole_split row number (s ∷ ts) zero (later_place row t (s ∷ ts) zero h) n w.1)
whole_split row number (t ∷ s ∷ ts) (suc (suc p)) h n w = (w.0, whole_split row number (s ∷ ts) (suc p) (later_place row t (s ∷ ts) (suc p) h) n w.1)
