-- To be believed by whoever relies on it. Which tablet of a table is due for work, and at which row it begins.
use Rattle.std.specs.Prelude.{◌≡◌, ◌<◌, ℕ, zero, suc, List, [], ◌∷◌, ◌++◌, true, false, ◌==◌, cond, Option, Some, None, find, length}
use Rattle.std.specs.Option.{option_map}
use Rattle.tab_tablet.specs.Due.{is_due}
use Rattle.tab_tablet.specs.Tablets.{Tablet}
use Rattle.tab_tablet.specs.declared.due.DueKind.{DueKind}
use Rattle.tab_tablets.specs.Places.{tablet_at}

-- the number of the first tablet, in the order of rows, that is due for work of this kind
abbrev pub first_due : DueKind → List Tablet → Option ℕ
first_due kind ts = option_map (λ (t : Tablet). t.number) (find (is_due kind) ts)

-- a tablet's number, where it is due for work of this kind
abbrev pub number_due : DueKind → Tablet → Option ℕ
number_due kind t = cond (is_due kind t) (Some t.number) None

-- ---- where a tablet begins
-- the least row above this end row; of all rows, if there is none
abbrev pub least_above : Option (List ℕ) → List ℕ
least_above None = []
least_above (Some end) = end ++ 0 ∷ []

-- the least row of the tablet with this number, the first of several, among tablets that lie above this end row
abbrev pub start_of : ℕ → Option (List ℕ) → List Tablet → Option (List ℕ)
start_of k low [] = None
start_of k low (t ∷ ts) = cond (t.number == k) (Some (least_above low)) (start_of k t.end ts)

-- ---- the same by its place
-- the tablet at this place is the first with the number
pub record IsFirstWith (k : ℕ) (ts : List Tablet) (place : ℕ) : Type 0 where
  pub inside : place < length ts
  pub holds : ((tablet_at ts place).number == k) ≡ true
  pub first : (j : ℕ) → j < place → ((tablet_at ts j).number == k) ≡ false

-- the least row of the tablet at a place
abbrev pub start_at : List Tablet → ℕ → List ℕ
start_at ts zero = []
start_at ts (suc place) = least_above (tablet_at ts place).end
