-- For proofs. The words of a line.
use Rattle.std.specs.Prelude.{ℕ, ◌==◌, Bool, true, false, List, [], ◌∷◌, filter}
use Rattle.std.specs.List.{slice_split}
use Rattle.tab_lines.specs.declared.words.Words.{Words}

-- the parts between these bytes
abbrev pub parts_at : ℕ → List ℕ → List (List ℕ)
parts_at c = slice_split (λ b. b == c)

-- whether there is a byte
abbrev pub is_filled : List ℕ → Bool
is_filled [] = false
is_filled (b ∷ bs) = true

-- the words of a line are what stands between spaces
unfoldable pub words_of : List ℕ → List (List ℕ)
words_of line = filter is_filled (parts_at 32 line)

-- the words that are left of a line
abbrev pub words_left : Words → List (List ℕ)
words_left words = words_of words.rest.now
