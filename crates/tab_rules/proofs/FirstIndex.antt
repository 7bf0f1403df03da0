-- The first index in a list at which a test passes.
use Rattle.std.proofs.Common.{◌≡◌, ℕ, ◌+◌, ◌<◌, List, [], ◌∷◌, refl, length, drop, arith}
use Rattle.std.specs.Prelude.{Bool, true, false, Some, None}
use Rattle.tab_mutation.specs.Shape.{first_index}

-- the first index is i or a later one
abbrev pub IsLater : {X : Type 0} → (X → Bool) → ℕ → List X → Type 0
IsLater p i xs = first_index p 0 xs ≡ first_index p i (drop i xs)

-- a test that fails everywhere passes nowhere
never : {X : Type 0} (i : ℕ) (xs : List X) → first_index (λ _. false) i xs ≡ None
never i [] = refl
never i (x ∷ xs) = never (i + 1) xs

-- a test that doesn't look at the element passes at none
pub first_index-never : {X : Type 0} (b : Bool) (xs : List X) → b ≡ false → first_index (λ _. b) 0 xs ≡ None
first_index-never false xs e = never 0 xs
first_index-never true xs e = absurd cc

-- or at the first
pub first_index-always : {X : Type 0} (b : Bool) (xs : List X) → b ≡ true → 0 < length xs → first_index (λ _. b) 0 xs ≡ Some 0
first_index-always false xs e some = absurd cc
first_index-always true [] e some = absurd (omega (arith, some))
first_index-always true (x ∷ xs) e some = refl
