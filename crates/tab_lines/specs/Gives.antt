-- For proofs. What is read of the words of a line, one after another.
use Rattle.std.specs.Prelude.{List, [], ◌∷◌, ℕ, Option, Some, None}
use Rattle.std.specs.Option.{option_map}

-- goes on with what was read, if something was
infixl 10 ◌>>=◌
abbrev pub ◌>>=◌ : {A B : Type 0} → Option A → (A → Option B) → Option B
None >>= f = None
(Some x) >>= f = f x

-- the first word, read so, and the words after it
abbrev pub field : {A : Type 0} → (List ℕ → Option A) → List (List ℕ) → Option (A × List (List ℕ))
field reads [] = None
field reads (word ∷ words) = option_map (λ x. (x, words)) (reads word)

-- no word is left
abbrev pub ends : List (List ℕ) → Option (List (List ℕ))
ends [] = Some []
ends (word ∷ words) = None

-- where no word is left, this
abbrev pub optional : {A : Type 0} → A → (List ℕ → Option A) → List (List ℕ) → Option (A × List (List ℕ))
optional missing reads [] = Some (missing, [])
optional missing reads (word ∷ words) = field reads (word ∷ words)
