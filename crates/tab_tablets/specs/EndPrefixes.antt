-- For proofs. The prefixes of the end rows of tablets.
use Rattle.std.specs.Prelude.{ℕ, List, [], ◌∷◌, Option, Some, None}
use Rattle.tab_key.specs.RowPrefix.{IsRowPrefix}
use Rattle.tab_tablet.specs.Tablets.{Tablet}

-- the number is the prefix of this end row
abbrev pub IsEndPrefix : ℕ → Option (List ℕ) → Type 0
IsEndPrefix prefix None = ⊥
IsEndPrefix prefix (Some end) = IsRowPrefix prefix end

-- the numbers are the prefixes of the end rows of these tablets, in their order
abbrev pub ArePrefixes : List ℕ → List Tablet → Type 0
ArePrefixes [] [] = Unit {0}
ArePrefixes [] (t ∷ ts) = ⊥
ArePrefixes (p ∷ ps) [] = ⊥
ArePrefixes (p ∷ ps) (t ∷ ts) = IsEndPrefix p t.end × ArePrefixes ps ts
