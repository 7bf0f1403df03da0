use Rattle.std.proofs.Common.{◌≡◌, ◌++◌, ◌∷◌, [], Ok, Bool, List, ℕ, refl, sym, ap, ◌∙◌}
use Rattle.std.proofs.lemmas.List.{append-nil}
use Rattle.tab_text.specs.Words.{word}
use Rattle.tab_text.proofs.Spelling.{bytes_fit}
use Rattle.tab_terminal.specs.Showing.{shown}
use Rattle.tab_terminal.specs.Typing.{sent, behind}
use Rattle.tab_terminal.specs.declared.place.LinePosition.TheVariants.{Between}
use Rattle.tab_terminal.proofs.Behind.{behind_twice}
use Rattle.tab_terminal.proofs.ShownTyped.{shown_on}
use Rattle.tab_terminal.proofs.laws.shown_is_typed.Goals as goal

pub returns-clause-last : goal.returns-clause-last
returns-clause-last c drawn =
    let bytes = c.args.bytes.now in
    ap (sent Between) (sym (append-nil (shown drawn bytes))) ∙ shown_on drawn bytes (bytes_fit bytes c.type_inv.bytes) [] refl ∙ ap (λ x. Ok x) (append-nil (word bytes))

pub returns-clause-first : goal.returns-clause-first
returns-clause-first c drawn rest =
    let bytes = c.args.bytes.now in
    shown_on drawn bytes (bytes_fit bytes c.type_inv.bytes) (32 ∷ rest) refl ∙ behind_twice (word bytes) (32 ∷ []) (sent Between rest)
