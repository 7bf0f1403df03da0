-- A word of plain bytes spells itself.
use Rattle.std.proofs.Common.{ℕ, ◌≡◌, Bool, true, false, List, [], ◌∷◌, refl, ap, ◌∙◌, Some}
use Rattle.std.specs.Prelude.{◌&&◌}
use Rattle.std.specs.List.{list_all}
use Rattle.std.specs.Option.{option_map}
use Rattle.tab_text.specs.Words.{is_plain}
use Rattle.tab_text.specs.Reading.{unescaped}
use Rattle.tab_text.specs.declared.escape.Escape.TheVariants.{Outside}
use Rattle.tab_text.proofs.Spelling.{read_plain}

-- both hold
both : (x y : Bool) → (x && y) ≡ true → (x ≡ true) × (y ≡ true)
both true y e = (refl, e)
both false y e = absurd cc

-- a word of plain bytes spells itself
pub plain_spells : (text : List ℕ) → list_all is_plain text ≡ true → unescaped Outside text ≡ Some text
plain_spells [] all = refl
plain_spells (b ∷ bs) all =
    let h = both (is_plain b) (list_all is_plain bs) all in
    read_plain b bs h.0 ∙ ap (option_map (λ xs. b ∷ xs)) (plain_spells bs h.1)
