-- For proofs. Places of tablets in the order of rows, counted from 0, and what is put there.
use Rattle.std.specs.Prelude.{◌≡◌, ◌≢◌, ◌⊎◌, ℕ, zero, suc, ◌+◌, ◌<◌, List, [], ◌∷◌, ◌++◌, Bool, true, false, ◌==◌, nat_eq, nat_lt, cond, Option, Some, None, length, bytes_eq, filter}
use Rattle.std.specs.List.{AllByRecursion, IsDistinct, list_any, slice_index_or}
use Rattle.tab_key.specs.Records.{Record}
use Rattle.tab_key.specs.Sorted.{IsIn}
use Rattle.tab_key.specs.Ranges.{is_in_range}
use Rattle.tab_key.specs.declared.range.Bounds.{Bounds}
use Rattle.tab_tablet.specs.Tablets.{Tablet, is_up_to, new_tablet, records_in, frozen}
use Rattle.tab_tablets.specs.ByRow.{AreWhole, records_of_all}
use Rattle.tab_tablets.specs.declared.bounded_tablet.MadeTablet.{MadeTablet}

-- a tablet with this end row in the place of its own
abbrev pub ended : Option (List ℕ) → Tablet → Tablet
ended end t = record t { end = end }

-- the tablet at a place; beyond the last there is nothing in it
abbrev pub tablet_at : List Tablet → ℕ → Tablet
tablet_at ts place = slice_index_or ts place (new_tablet 0 None)

-- the tablet at this place is the first whose end isn't before the row
pub record IsPlaceOf (row : List ℕ) (ts : List Tablet) (place : ℕ) : Type 0 where
  pub inside : place < length ts
  pub holds : is_up_to (tablet_at ts place).end row ≡ true
  pub first : (k : ℕ) → k < place → is_up_to (tablet_at ts k).end row ≡ false

-- whether the row is this end row
abbrev pub is_end_row : List ℕ → Option (List ℕ) → Bool
is_end_row row None = false
is_end_row row (Some end) = bytes_eq row end

-- in the place of the tablet there are these (The others stay.)
abbrev pub at_place : ℕ → (Tablet → List Tablet) → List Tablet → List Tablet
at_place place f [] = []
at_place zero f (t ∷ ts) = f t ++ ts
at_place (suc place) f (t ∷ ts) = t ∷ at_place place f ts

-- another tablet, up to the end row that is there
abbrev pub put_at : ℕ → Tablet → List Tablet → List Tablet
put_at place new ts = at_place place (λ (t : Tablet). ended t.end new ∷ []) ts

-- ---- tablets that are made before any is put in
-- it is what f makes of the tablet at its place
pub record IsMadeOf (f : Tablet → Tablet) (ts : List Tablet) (m : MadeTablet) : Type 0 where
  pub inside : m.place < length ts
  pub is : ended (tablet_at ts m.place).end m.tablet ≡ f (tablet_at ts m.place)

abbrev pub AreMade : (Tablet → Tablet) → List Tablet → List MadeTablet → Type 0
AreMade f ts ms = AllByRecursion (IsMadeOf f ts) ms

-- whether one is for this place
abbrev pub is_made : List MadeTablet → ℕ → Bool
is_made ms place = list_any (λ (m : MadeTablet). m.place == place) ms

-- one is for this place, or f would change nothing there
abbrev pub IsSettled : (Tablet → Tablet) → List Tablet → List MadeTablet → ℕ → Type 0
IsSettled f ts ms place = (is_made ms place ≡ true) ⊎ (f (tablet_at ts place) ≡ tablet_at ts place)

-- more were made, rightly
pub record MakesMore (f : Tablet → Tablet) (ts : List Tablet) (old new : List MadeTablet) : Type 0 where
  pub made : AreMade f ts old → AreMade f ts new
  pub more : (k : ℕ) → is_made old k ≡ true → is_made new k ≡ true

-- they are put in
abbrev pub installed : List MadeTablet → List Tablet → List Tablet
installed [] ts = ts
installed (m ∷ ms) ts = put_at m.place m.tablet (installed ms ts)

-- ---- what an Open reads
-- the records of a tablet whose rows are in bounds, once it is frozen
abbrev pub part_in : Bounds → Tablet → List Record
part_in bounds t = filter (λ (u : Record). is_in_range bounds u.key.row) (records_in (frozen t))

-- ---- what a table's tablets keep
-- each record lies in a row of its tablet
abbrev pub HoldOwnRows : List Tablet → Type 0
HoldOwnRows [] = Unit {0}
HoldOwnRows (t ∷ ts) = ((u : Record) → IsIn (records_in t) u → is_up_to t.end u.key.row ≡ true) × ((u : Record) → IsIn (records_of_all ts) u → is_up_to t.end u.key.row ≡ false) × HoldOwnRows ts

-- whether the place is one of these
abbrev pub is_among : List ℕ → ℕ → Bool
is_among ws place = list_any (λ w. w == place) ws

-- the place of a tablet once the one at this place is split, and none of that one
abbrev pub moved_from : ℕ → ℕ → Option ℕ
moved_from place w = cond (w == place) None (Some (cond (nat_lt place w) (w + 1) w))

-- each row has one tablet, which holds the records of its rows alone; and these places are those at which something waits to be frozen, each
-- of them once
pub record AreKept (ts : List Tablet) (ws : List ℕ) : Type 0 where
  pub whole : AreWhole ts
  pub rows : HoldOwnRows ts
  pub inside : AllByRecursion (λ w. w < length ts) ws
  pub waiting : (k : ℕ) → is_among ws k ≡ false → (tablet_at ts k).active ≡ []
  pub waits : AllByRecursion (λ w. (tablet_at ts w).active ≢ []) ws
  pub apart : IsDistinct nat_eq ws
