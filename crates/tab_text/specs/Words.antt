-- To be believed by whoever relies on it. What a byte word is, and which one is written.
use Rattle.std.specs.Prelude.{ℕ, ◌≡◌, ◌≢◌, ◌+◌, ◌/◌, ◌%◌, ◌<◌, ◌==◌, nat_le, nat_lt, Bool, true, not, ◌&&◌, ◌⊎◌, List, [], ◌∷◌, ◌++◌, if◌then◌else◌}

-- the bytes that stand for themselves: 0x21 to 0x7e but the backslash
abbrev pub is_plain : ℕ → Bool
is_plain b = (nat_le 33 b && nat_le b 126) && not (b == 92)

-- the digit of a value below 16: 0 to 9, a to f
abbrev pub hex_digit : ℕ → ℕ
hex_digit n = if nat_lt n 10 then 48 + n else 87 + n

-- \x and two digits
abbrev pub hex_form : ℕ → List ℕ
hex_form b = 92 ∷ 120 ∷ hex_digit (b / 16) ∷ hex_digit (b % 16) ∷ []

-- how one byte may be written
abbrev pub IsEscapedByte : List ℕ → ℕ → Type 0
IsEscapedByte text b = ((is_plain b ≡ true) × (text ≡ b ∷ [])) ⊎ (((b ≡ 92) × (text ≡ 92 ∷ 92 ∷ [])) ⊎ ((b < 256) × (text ≡ hex_form b)))

-- the text writes the bytes, escaped, one after another
abbrev pub IsEscaped : List ℕ → List ℕ → Type 0
IsEscaped text [] = text ≡ []
IsEscaped text (b ∷ bs) = (first : List ℕ) × (rest : List ℕ) × IsEscapedByte first b × IsEscaped rest bs × (text ≡ first ++ rest)

-- \e
abbrev pub empty_word : List ℕ
empty_word = 92 ∷ 101 ∷ []

-- a word and the bytes that it spells
abbrev pub IsWord : List ℕ → List ℕ → Type 0
IsWord text bytes = ((text ≡ empty_word) × (bytes ≡ [])) ⊎ ((bytes ≢ []) × IsEscaped text bytes)

-- the one form in which a byte is written
abbrev pub escaped_byte : ℕ → List ℕ
escaped_byte b = if is_plain b then b ∷ [] else if b == 92 then 92 ∷ 92 ∷ [] else hex_form b

-- the bytes, escaped, one after another
abbrev pub escaped : List ℕ → List ℕ
escaped [] = []
escaped (b ∷ bs) = escaped_byte b ++ escaped bs

-- the one word that is written for these bytes
abbrev pub word : List ℕ → List ℕ
word [] = empty_word
word (b ∷ bs) = escaped (b ∷ bs)
