-- For proofs. Records that lie parted by their rows.
use Rattle.std.specs.Prelude.{ℕ, suc, ◌≡◌, ◌<◌, ⊤, List, [], ◌∷◌, length}
use Rattle.std.specs.Coded.{Coded-set, coded_ℕ, le_prop}
use Rattle.std.specs.Int.{from_be_bytes, w128}
use Rattle.std.specs.List.{AllByRecursion, AllByRecursion-prop}
use Rattle.std.specs.List.Sorted.{IsNonDecreasing}
use mathlib.Core.HLevel.{Π_prop}
use Rattle.tab_key.specs.Records.{Record}
use Rattle.tab_key.specs.RowPrefix.{padded}
use Rattle.tab_key.specs.Sorted.{IsIn}
use Rattle.tab_mem.specs.Numbers.{count_below}

-- the number that the first 16 bytes of a row spell
abbrev pub row_number : List ℕ → ℕ
row_number row = from_be_bytes w128 (padded 16 row)

-- how many of some numbers are below a row's: that is the place of the row
abbrev pub place_of : List ℕ → List ℕ → ℕ
place_of lows row = count_below (row_number row) lows

-- the row has this place; and where there are several, its bytes are bytes
pub record IsPlaced (lows : List ℕ) (place : ℕ) (row : List ℕ) : Type 0 where
  pub at : place_of lows row ≡ place
  pub bytes : 0 < length lows → AllByRecursion (λ b. b < 256) (padded 16 row)

-- from a place on, each list has the records of its place
abbrev pub ArePlaced : List ℕ → ℕ → List (List Record) → Type 0
ArePlaced lows place [] = ⊤
ArePlaced lows place (us ∷ wss) = ((u : Record) → IsIn us u → IsPlaced lows place u.key.row) × ArePlaced lows (suc place) wss

-- .. and there is one for each place, 16 at most, whose numbers rise
pub record ArePartitions (lows : List ℕ) (lowest : List Record) (higher : List (List Record)) : Type 0 where
  pub many : length higher ≡ length lows
  pub few : length lows < 16
  pub rising : IsNonDecreasing lows
  pub placed : ArePlaced lows 0 (lowest ∷ higher)

-- ---- these facts have one proof each
IsPlaced-prop : (lows : List ℕ) (place : ℕ) (row : List ℕ) → IsProp (IsPlaced lows place row)
IsPlaced-prop lows place row a b = λ i. record { at = Coded-set coded_ℕ _ _ a.at b.at i; bytes = Π_prop (λ some. AllByRecursion-prop _ (λ x. le_prop) (padded 16 row)) a.bytes b.bytes i }

ArePlaced-prop : (lows : List ℕ) (place : ℕ) (wss : List (List Record)) → IsProp (ArePlaced lows place wss)
ArePlaced-prop lows place [] a b = λ i. tt
ArePlaced-prop lows place (us ∷ wss) a b = λ i. (Π_prop (λ u. Π_prop λ h. IsPlaced-prop lows place u.key.row) a.0 b.0 i, ArePlaced-prop lows (suc place) wss a.1 b.1 i)

pub ArePartitions-prop : (lows : List ℕ) (lowest : List Record) (higher : List (List Record)) → IsProp (ArePartitions lows lowest higher)
ArePartitions-prop lows lowest higher a b = λ i. record { many = Coded-set coded_ℕ _ _ a.many b.many i; few = le_prop a.few b.few i; rising = Π_prop (λ j. Π_prop λ k. Π_prop λ d. Π_prop λ le. Π_prop λ lt. le_prop) a.rising b.rising i; placed = ArePlaced-prop lows 0 (lowest ∷ higher) a.placed b.placed i }
