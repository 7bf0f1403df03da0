-- To be believed by whoever relies on it. The texts of lines.
use Rattle.std.specs.Prelude.{ℕ, List, [], ◌∷◌, ◌++◌}
use Rattle.std.specs.Fmt.{decimal, signed_decimal}
use Rattle.tab_key.specs.Records.{Cell}
use Rattle.tab_text.specs.Words.{word}
use Rattle.tab_text.specs.declared.line.Word.{Word}
use Rattle.tab_text.specs.declared.line.Word.TheVariants.{Text, Qualified, Bytes, Number, Signed}

-- the words, each behind a space
abbrev pub after_spaces : List (List ℕ) → List ℕ
after_spaces [] = []
after_spaces (w ∷ ws) = 32 ∷ (w ++ after_spaces ws)

-- words parted by one space, and a line feed
abbrev pub line_text : List (List ℕ) → List ℕ
line_text [] = 10 ∷ []
line_text (w ∷ ws) = w ++ (after_spaces ws ++ 10 ∷ [])

-- the text of one word
abbrev pub word_text : Word → List ℕ
word_text (Text text) = text.now
word_text (Qualified kind name) = kind.now ++ (46 ∷ name.now)
word_text (Bytes bytes) = word bytes.now
word_text (Number number) = decimal number
word_text (Signed number) = signed_decimal number

-- the line of a cell: ROW FAM QUAL LABEL TS VALUE
unfoldable pub cell_text : Cell → List ℕ
cell_text c = line_text (word c.key.row ∷ word c.key.family ∷ word c.key.qualifier ∷ word c.key.label ∷ signed_decimal c.key.timestamp ∷ word c.value ∷ [])
