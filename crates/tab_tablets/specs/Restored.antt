-- For proofs. Tablets that are made of end rows and of a table's records.
use Rattle.std.specs.Prelude.{◌≡◌, ℕ, List, [], ◌∷◌, ◌++◌, Bool, true, false, Option, Some, None, filter, find, map, bytes_eq}
use Rattle.std.specs.List.Sorted.{IsStrictlySortedBy}
use Rattle.std.specs.Ordering.{is_le}
use Rattle.tab_key.specs.Bytes.{bytes_cmp}
use Rattle.tab_key.specs.Records.{Record}
use Rattle.tab_iter.specs.Lists.{IsRising}
use Rattle.tab_tablet.specs.Tablets.{Tablet, tabled, next_number}
use Rattle.tab_tablets.specs.ByRow.{AreWhole, LieApart, records_of_all, ends_of}

-- each end row is below those after it
abbrev pub EndRowsRise : List (List ℕ) → Type 0
EndRowsRise ends = IsStrictlySortedBy bytes_cmp ends

-- of these end rows that of the row's tablet: the first that isn't before the row; none, where all are before it
abbrev pub end_for : List (List ℕ) → List ℕ → Option (List ℕ)
end_for ends row = find (λ end. is_le (bytes_cmp row end)) ends

-- whether this is the same end row, or both are none
abbrev pub same_end : Option (List ℕ) → Option (List ℕ) → Bool
same_end None None = true
same_end None (Some b) = false
same_end (Some a) None = false
same_end (Some a) (Some b) = bytes_eq a b

-- of these records those whose rows lie in the tablet with this end row
abbrev pub records_for : List (List ℕ) → List Record → Option (List ℕ) → List Record
records_for ends us end = filter (λ (u : Record). same_end (end_for ends u.key.row) end) us

-- a tablet for each of these of the end rows, numbered from this number on; each holds the records of its rows as one sorted table, or has
-- no source where there are none
abbrev pub tabled_for : List (List ℕ) → List Record → ℕ → List (Option (List ℕ)) → List Tablet
tabled_for ends us number [] = []
tabled_for ends us number (end ∷ later) = tabled number end (records_for ends us end) ∷ tabled_for ends us (next_number number) later

-- one for each end row, and the last one
abbrev pub restored : ℕ → List (List ℕ) → List Record → List Tablet
restored number ends us = tabled_for ends us number (map Some ends ++ None ∷ [])

-- ---- what such tablets are
-- each row has one of them, and they end at these rows
abbrev pub RestoredAreWhole : Type 0
RestoredAreWhole = (number : ℕ) (ends : List (List ℕ)) (us : List Record) → EndRowsRise ends → AreWhole (restored number ends us) × (ends_of (restored number ends us) ≡ ends)

-- they hold exactly these records, in this order, and lie apart
abbrev pub RestoredHoldAll : Type 0
RestoredHoldAll = (number : ℕ) (ends : List (List ℕ)) (us : List Record) → EndRowsRise ends → IsRising us → (records_of_all (restored number ends us) ≡ us) × LieApart (restored number ends us)
