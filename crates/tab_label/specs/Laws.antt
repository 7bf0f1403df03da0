-- For proofs. Laws that tie the functions to the relations.
use Rattle.std.specs.Prelude.{◌≡◌, ◌↔◌, ℕ, ◌<◌, true, List, Result, Ok, Err}
use Rattle.std.specs.List.{All}
use Rattle.tab_label.specs.Grammar.{Label, Reads, IsNoLabel, IsOffset}
use Rattle.tab_label.specs.Reading.{label_of}
use Rattle.tab_label.specs.Sets.{has}
use Rattle.tab_label.specs.Holding.{Holds, holds, label_holds}

-- each is a byte
abbrev pub AreBytes : List ℕ → Type 0
AreBytes = All (λ b. b < 256)

-- what an answer of `label_of` says of the text: what it reads as, or that it reads as nothing, and its offset
abbrev pub IsAnswer : List ℕ → Result Label ℕ → Type 0
IsAnswer text (Ok m) = Reads text m
IsAnswer text (Err n) = IsNoLabel text × IsOffset text n

-- No text says two things.
abbrev pub OneMeaning : Type 0
OneMeaning = (text : List ℕ) (m n : Label) → Reads text m → Reads text n → m ≡ n

-- What the function makes of bytes is so by the grammar.
abbrev pub ReadingIsTheGrammar : Type 0
ReadingIsTheGrammar = (text : List ℕ) → AreBytes text → IsAnswer text (label_of text)

-- What the grammar reads in a text of bytes, or its offset, the function finds.
abbrev pub TheGrammarIsReading : Type 0
TheGrammarIsReading = (text : List ℕ) (answer : Result Label ℕ) → AreBytes text → IsAnswer text answer → label_of text ≡ answer

-- The test of a label is true exactly where the label holds.
abbrev pub HoldingIsTheRelation : Type 0
HoldingIsTheRelation = (label : Label) (auths : List (List ℕ)) → (holds label auths ≡ true) ↔ Holds label auths

-- each member of the first set is one of the second
abbrev pub IsSubset : List (List ℕ) → List (List ℕ) → Type 0
IsSubset few many = (term : List ℕ) → has few term ≡ true → has many term ≡ true

-- What holds under some authorizations holds under more.
abbrev pub MoreAuthsHoldMore : Type 0
MoreAuthsHoldMore = (few many : List (List ℕ)) → IsSubset few many → (text : List ℕ) → label_holds text few ≡ true → label_holds text many ≡ true
