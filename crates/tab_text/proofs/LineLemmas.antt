-- Words on a line, one after another.
use Rattle.std.proofs.Common.{◌≡◌, ℕ, ◌==◌, false, List, [], ◌∷◌, ◌++◌, length, get_or, drop, map, refl, ap}
use Rattle.std.specs.List.{flat_map}
use Rattle.tab_text.specs.Lines.{line_text, after_spaces, word_text}
use Rattle.tab_text.specs.declared.line.Word.{Word}

-- items, each behind a space
pub after_spaces_each : {X : Type 0} (f : X → List ℕ) (xs : List X) → flat_map (λ x. 32 ∷ f x) xs ≡ after_spaces (map f xs)
after_spaces_each f [] = refl
after_spaces_each f (x ∷ xs) = ap (λ t. 32 ∷ (f x ++ t)) (after_spaces_each f xs)

-- the first word, and then the others, where there is a first
pub line_first : (words others : List Word) (d : Word) → false ≡ (length words == 0) → others ≡ drop 1 words
    → word_text (get_or words 0 d) ++ (after_spaces (map word_text others) ++ 10 ∷ []) ≡ line_text (map word_text words)
line_first [] others d some is = absurd cc
line_first (w ∷ ws) others d some is = ap (λ vs. word_text w ++ (after_spaces (map word_text vs) ++ 10 ∷ [])) is
