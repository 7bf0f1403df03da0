-- The first tablet that is due for work, and where a tablet begins.
use Rattle.std.proofs.Common.{◌≡◌, ◌≢◌, ℕ, zero, suc, ◌-◌, ◌<◌, List, [], ◌∷◌, true, false, cond, refl, sym, ◌∙◌, ap, length, arith}
use Rattle.std.specs.Prelude.{Option, Some, None, find, ◌==◌}
use Rattle.std.specs.Option.{option_map}
use Rattle.tab_tablet.specs.Due.{is_due}
use Rattle.tab_tablet.specs.Tablets.{Tablet}
use Rattle.tab_tablet.specs.declared.due.DueKind.{DueKind}
use Rattle.tab_tablet.specs.declared.due.DueKind.TheVariants.{Minor, Partial, Split}
use Rattle.tab_tablets.specs.Due.{first_due, least_above, start_of, IsFirstWith, start_at}
use Rattle.tab_tablets.specs.Places.{ended, tablet_at}

-- ---- work
module _ (kind : DueKind) where
  -- the end row takes no part in it
  bare_due : (k : DueKind) (end : Option (List ℕ)) (bare : Tablet) → is_due k bare ≡ is_due k (ended end bare)
  bare_due Minor end bare = refl
  bare_due Partial end bare = refl
  bare_due Split end bare = refl

  pub due_ended : (end : Option (List ℕ)) (bare t : Tablet) → ended end bare ≡ t → is_due kind bare ≡ is_due kind t
  due_ended end bare t is = bare_due kind end bare ∙ ap (is_due kind) is

  -- that at a place, where it is due and none before it is
  found_there : (ts : List Tablet) (p : ℕ) → p < length ts → ((j : ℕ) → j < p → is_due kind (tablet_at ts j) ≡ false) → is_due kind (tablet_at ts p) ≡ true → find (is_due kind) ts ≡ Some (tablet_at ts p)
  found_there [] p lt before at = absurd (omega arith)
  found_there (t ∷ ts) zero lt before at = ap (λ v. cond v (Some t) (find (is_due kind) ts)) at
  found_there (t ∷ ts) (suc p) lt before at =
      ap (λ v. cond v (Some t) (find (is_due kind) ts)) (before 0 (omega arith))
      ∙ found_there ts p (omega arith) (λ j less. before (suc j) (omega arith)) at

  pub due_there : (ts : List Tablet) (p : ℕ) → p < length ts → ((j : ℕ) → j < p → is_due kind (tablet_at ts j) ≡ false) → is_due kind (tablet_at ts p) ≡ true → first_due kind ts ≡ Some (tablet_at ts p).number
  due_there ts p lt before at = ap (option_map (λ (t : Tablet). t.number)) (found_there ts p lt before at)

  -- none, where none is
  found_nowhere : (ts : List Tablet) → ((j : ℕ) → j < length ts → is_due kind (tablet_at ts j) ≡ false) → find (is_due kind) ts ≡ None
  found_nowhere [] none = refl
  found_nowhere (t ∷ ts) none = ap (λ v. cond v (Some t) (find (is_due kind) ts)) (none 0 (omega arith)) ∙ found_nowhere ts (λ j less. none (suc j) (omega arith))

  pub due_nowhere : (ts : List Tablet) → ((j : ℕ) → j < length ts → is_due kind (tablet_at ts j) ≡ false) → first_due kind ts ≡ None
  due_nowhere ts none = ap (option_map (λ (t : Tablet). t.number)) (found_nowhere ts none)

-- ---- where a tablet begins
-- that at a place, where those before the first lie above this end row
abbrev start_from : Option (List ℕ) → List Tablet → ℕ → List ℕ
start_from low ts zero = least_above low
start_from low ts (suc p) = least_above (tablet_at ts p).end

later_with : (k : ℕ) (t : Tablet) (ts : List Tablet) (p : ℕ) → IsFirstWith k (t ∷ ts) (suc p) → IsFirstWith k ts p
later_with k t ts p h = record { inside = let i = h.inside in omega (arith, i); holds = h.holds; first = λ j lt. h.first (suc j) (omega arith) }

other_first : (k : ℕ) (t : Tablet) (ts : List Tablet) (p : ℕ) → IsFirstWith k (t ∷ ts) (suc p) → (t.number == k) ≡ false
other_first k t ts p h = h.first 0 (omega arith)

begins : (k : ℕ) (low : Option (List ℕ)) (ts : List Tablet) (p : ℕ) → IsFirstWith k ts p → start_of k low ts ≡ Some (start_from low ts p)
begins k low [] p h = let i = h.inside in absurd (omega (arith, i))
begins k low (t ∷ ts) zero h = ap (λ v. cond v (Some (least_above low)) (start_of k t.end ts)) h.holds
begins k low (t ∷ ts) (suc zero) h = ap (λ v. cond v (Some (least_above low)) (start_of k t.end ts)) (other_first k t ts zero h) ∙ begins k t.end ts zero (later_with k t ts zero h)
begins k low (t ∷ ts) (suc (suc p)) h = ap (λ v. cond v (Some (least_above low)) (start_of k t.end ts)) (other_first k t ts (suc p) h) ∙ begins k t.end ts (suc p) (later_with k t ts (suc p) h)

first_start : (ts : List Tablet) (p : ℕ) → start_from None ts p ≡ start_at ts p
first_start ts zero = refl
first_start ts (suc p) = refl

pub starts_there : (k : ℕ) (ts : List Tablet) (p : ℕ) → IsFirstWith k ts p → start_of k None ts ≡ Some (start_at ts p)
starts_there k ts p h = begins k None ts p h ∙ ap Some (first_start ts p)

none_with : (k : ℕ) (low : Option (List ℕ)) (ts : List Tablet) → ((j : ℕ) → j < length ts → ((tablet_at ts j).number == k) ≡ false) → start_of k low ts ≡ None
none_with k low [] f = refl
none_with k low (t ∷ ts) f = ap (λ v. cond v (Some (least_above low)) (start_of k t.end ts)) (f 0 (omega arith)) ∙ none_with k t.end ts (λ j lt. f (suc j) (omega arith))

pub starts_nowhere : (k : ℕ) (ts : List Tablet) → ((j : ℕ) → j < length ts → ((tablet_at ts j).number == k) ≡ false) → start_of k None ts ≡ None
starts_nowhere k ts f = none_with k None ts f

-- behind the first place
pub start_behind : (ts : List Tablet) (p : ℕ) → p ≢ 0 → start_at ts p ≡ least_above (tablet_at ts (p - 1)).end
start_behind ts zero ne = absurd (ne refl)
start_behind ts (suc p) ne = let e : suc p - 1 ≡ p = omega arith in ap (λ k. least_above (tablet_at ts k).end) (sym e)
