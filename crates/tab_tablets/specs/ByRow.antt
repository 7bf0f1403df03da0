-- To be believed by whoever relies on it. The tablets of a table, by their end rows, and what is read of them. (Accumulo user manual: tablets)
use Rattle.std.specs.Prelude.{◌≡◌, ℕ, List, [], ◌∷◌, ◌++◌, Bool, Option, Some, None, cond, find, map, bytes_eq}
use Rattle.std.specs.List.{list_any, filter_map}
use Rattle.std.specs.declared.cmp.Ordering.TheVariants.{Less}
use Rattle.tab_key.specs.Bytes.{bytes_cmp}
use Rattle.tab_key.specs.Records.{Record}
use Rattle.tab_key.specs.Sorted.{sorted}
use Rattle.tab_iter.specs.Bags.{flat}
use Rattle.tab_iter.specs.Lists.{IsRising}
use Rattle.tab_tablet.specs.Tablets.{Tablet, is_up_to, records_in}

-- ---- rows
-- one end row lies before the next one, of which there may be none
abbrev pub EndsBefore : Option (List ℕ) → Option (List ℕ) → Type 0
EndsBefore None next = ⊥
EndsBefore (Some end) None = Unit {0}
EndsBefore (Some end) (Some next) = bytes_cmp end next ≡ Less

-- they rise strictly, and the last alone is none
abbrev pub EndsRise : List (Option (List ℕ)) → Type 0
EndsRise [] = ⊥
EndsRise (end ∷ []) = end ≡ None
EndsRise (end ∷ next ∷ ends) = EndsBefore end next × EndsRise (next ∷ ends)

-- so each row has one tablet
abbrev pub AreWhole : List Tablet → Type 0
AreWhole ts = EndsRise (map (λ (t : Tablet). t.end) ts)

-- Of these tablets the one that holds the row, which is the first whose end isn't before it: in its place are these. (The others stay.)
abbrev pub at_row : List ℕ → (Tablet → List Tablet) → List Tablet → List Tablet
at_row row f [] = []
at_row row f (t ∷ ts) = cond (is_up_to t.end row) (f t ++ ts) (t ∷ at_row row f ts)

-- that tablet
abbrev pub tablet_of : List ℕ → List Tablet → Option Tablet
tablet_of row ts = find (λ (t : Tablet). is_up_to t.end row) ts

-- ---- what is read of them
-- all records of some tablets
abbrev pub records_of_all : List Tablet → List Record
records_of_all ts = flat (map records_in ts)

-- what one tablet holds lies before what the next one holds
abbrev pub LieApart : List Tablet → Type 0
LieApart ts = IsRising (flat (map (λ (t : Tablet). sorted (records_in t)) ts))

-- the rows at which a table is split
abbrev pub ends_of : List Tablet → List (List ℕ)
ends_of ts = filter_map (λ (t : Tablet). t.end) ts

-- whether this is one of them
abbrev pub is_end : List ℕ → List Tablet → Bool
is_end row ts = list_any (bytes_eq row) (ends_of ts)
