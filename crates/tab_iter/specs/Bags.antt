-- For proofs. Several lists of records as one rising list.
use Rattle.std.specs.Prelude.{◌≡◌, ℕ, ◌<◌, ◌-◌, Option, Some, None, List, [], ◌∷◌, ◌++◌, Bool, true, false, drop, length, slice_index_or, ◌≢◌, ⊤, IsSome, is_some}
use Rattle.std.specs.List.{AllByRecursion}
use Rattle.std.specs.Ordering.{is_lt}
use Rattle.tab_key.specs.Order.{record_cmp}
use Rattle.tab_key.specs.Records.{Record}
use Rattle.tab_iter.specs.Lists.{first_of}

-- the records of all of the lists
abbrev pub flat : List (List Record) → List Record
flat [] = []
flat (xs ∷ xss) = xs ++ flat xss

-- the list at this place stands first by its first record
pub record IsFirstAt (xss : List (List Record)) (n b : ℕ) : Type 0 where
  pub inside : b < n
  pub first : Record
  pub is : first_of (slice_index_or xss b []) ≡ Some first
  pub least : (k : ℕ) (u : Record) → k < n → first_of (slice_index_or xss k []) ≡ Some u → is_lt (record_cmp u first) ≡ false

-- whether the first record of one list stands before that of the other
abbrev pub is_ahead : Option Record → Option Record → Bool
is_ahead None o = false
is_ahead (Some r) None = true
is_ahead (Some r) (Some s) = is_lt (record_cmp r s)

-- the first record of the list at this place
abbrev pub first_in : List (List Record) → ℕ → Option Record
first_in xss k = first_of (slice_index_or xss k [])

-- whether the list at one place stands before that at the other
abbrev pub is_ahead_at : List (List Record) → ℕ → ℕ → Bool
is_ahead_at xss o b = is_ahead (first_in xss o) (first_in xss b)

-- none of the lists stands before the one at b
abbrev pub Leads : List (List Record) → ℕ → Type 0
Leads xss b = (k : ℕ) → is_ahead (first_in xss k) (first_in xss b) ≡ false

-- the place is none of these
abbrev pub IsOutside : List ℕ → ℕ → Type 0
IsOutside os k = AllByRecursion (λ o. o ≢ k) os

-- the list at o is another than the one at p, and doesn't stand before it
abbrev pub IsBehind : List (List Record) → ℕ → ℕ → Type 0
IsBehind xss o p = (o ≢ p) × (is_ahead (first_in xss o) (first_in xss p) ≡ false)

-- along these places the first records fall: each list has one, and is behind the lists of the places after it
abbrev pub IsDescending : List (List Record) → List ℕ → Type 0
IsDescending xss [] = ⊤
IsDescending xss (o ∷ os) = IsSome (first_in xss o) × (AllByRecursion (IsBehind xss o) os × IsDescending xss os)

-- a list outside these places is empty
abbrev pub Covers : List (List Record) → List ℕ → Type 0
Covers xss os = (k : ℕ) → IsOutside os k → is_some (first_in xss k) ≡ false

-- xs is what is left of w after some of its first records, said as an equation
abbrev pub IsEnding : List Record → List Record → Type 0
IsEnding xs w = xs ≡ drop (length w - length xs) w
