-- To be believed by whoever relies on it. When receipts are all that a book gave.
use Rattle.std.specs.Prelude.{ℕ, ◌≡◌, ◌+◌, List, [], ◌∷◌, Some, filter, map, nat_eq, slice_get}
use Rattle.std.specs.List.{IsDistinct}
use Rattle.tab_book.specs.Entries.{Posted, Record}
use Rattle.tab_book.specs.Receipts.{Slip}

-- no two of the receipts have one number
abbrev pub AreApart : List Slip → Type 0
AreApart slips = IsDistinct nat_eq (map (λ (s : Slip). s.number) slips)

-- just one of the receipts has this number, and it is this entry's
abbrev pub IsAlone : List Slip → ℕ → Posted → Type 0
IsAlone slips number entry = (slip : Slip) × (filter (λ (s : Slip). nat_eq s.number number) slips ≡ slip ∷ []) × (slip.entry ≡ entry)

-- each entry of the book has one receipt among these
abbrev pub IsWhole : Record → List Slip → Type 0
IsWhole book slips = (place : ℕ) (entry : Posted) → slice_get book.entries place ≡ Some entry → IsAlone slips (book.first + place) entry
