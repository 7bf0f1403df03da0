-- For proofs. Short labels that are known by their numbers.
use Rattle.std.specs.Prelude.{◌≡◌, ℕ, true, List, Option, Some, is_ok}
use Rattle.std.specs.List.{All}
use Rattle.tab_key.specs.Words.{IsWord}
use Rattle.tab_label.specs.Reading.{label_of}

-- the byte string of this number is a label
abbrev pub SpellsLabel : ℕ → Type 0
SpellsLabel word = (text : List ℕ) → IsWord word text → is_ok (label_of text) ≡ true

-- each of these numbers is a label's
abbrev pub AreLabels : List (Option ℕ) → Type 0
AreLabels words = All (λ known. (word : ℕ) → known ≡ Some word → SpellsLabel word) words
