-- For proofs. The first 16 bytes of a row, as a number.
use Rattle.std.specs.Prelude.{ℕ, zero, suc, ◌<◌, ◌≡◌, List, [], ◌∷◌}
use Rattle.std.specs.List.{AllByRecursion}
use Rattle.std.specs.Int.{from_be_bytes, w128}

-- the first n bytes, with zeros where there are fewer
unfoldable pub padded : ℕ → List ℕ → List ℕ
padded zero xs = []
padded (suc n) [] = 0 ∷ padded n []
padded (suc n) (x ∷ xs) = x ∷ padded n xs

-- the number that the first 16 bytes spell
pub record IsRowPrefix (prefix : ℕ) (row : List ℕ) : Type 0 where
  pub value : prefix ≡ from_be_bytes w128 (padded 16 row)
  pub bytes : AllByRecursion (λ b. b < 256) (padded 16 row)
