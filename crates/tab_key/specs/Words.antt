-- For proofs. Byte strings as numbers.
use Rattle.std.specs.Prelude.{ℕ, ◌≡◌, ◌+◌, ◌-◌, ◌*◌, ◌^◌, ◌<◌, List, [], ◌∷◌, length, drop, cond, nat_lt}
use Rattle.std.specs.Int.{from_be_bytes, w64}
use Rattle.std.specs.List.{AllByRecursion}

-- the number that the bytes spell, the first one the highest
abbrev pub worth : List ℕ → ℕ
worth [] = 0
worth (x ∷ xs) = x * 256 ^ length xs + worth xs

-- the number that they spell behind a one
unfoldable pub word_of : List ℕ → ℕ
word_of string = worth (1 ∷ string)

-- the number is that of this byte string
pub record IsWord (word : ℕ) (string : List ℕ) : Type 0 where
  pub value : word ≡ word_of string
  pub bytes : AllByRecursion (λ b. b < 256) string

-- two byte strings of one number are the same
abbrev pub WordsTellApart : Type 0
WordsTellApart = (word : ℕ) (a b : List ℕ) → IsWord word a → IsWord word b → a ≡ b

-- the number that the last eight bytes spell, or 0 where there are fewer: byte strings of different numbers differ
unfoldable pub mark_of : List ℕ → ℕ
mark_of string = cond (nat_lt (length string) 8) 0 (from_be_bytes w64 (drop (length string - 8) string))
