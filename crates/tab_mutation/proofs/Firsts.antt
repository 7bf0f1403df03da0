-- The first answer in a list, looked for from its beginning.
use Rattle.std.proofs.Common.{◌≡◌, ℕ, List, drop}
use Rattle.std.specs.Prelude.{Option}
use Rattle.tab_mutation.specs.Shape.{first_found}

-- the first answer lies at or behind the index i
abbrev pub IsLater : {X Y : Type 0} → (ℕ → X → Option Y) → ℕ → List X → Type 0
IsLater f i xs = first_found f 0 xs ≡ first_found f i (drop i xs)
