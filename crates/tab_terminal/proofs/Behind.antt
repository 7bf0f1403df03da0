-- What is sent behind what is sent.
use Rattle.std.proofs.Common.{◌≡◌, ℕ, List, [], ◌∷◌, ◌++◌, refl, sym, ap, ◌∙◌, Result, Ok, Err, subst}
use Rattle.std.proofs.lemmas.List.{append_assoc}
use Rattle.tab_terminal.specs.Typing.{behind, goes_on, sent, typed, PutsTyped, PutsOn}
use Rattle.tab_terminal.specs.declared.place.LinePosition.{LinePosition}
use Rattle.tab_terminal.specs.declared.misquote.Misquote.{Misquote}
use Rattle.tab_terminal.specs.declared.misquote.Unsent.{Unsent}

-- two beginnings are one
pub behind_twice : (a b : List ℕ) (r : Result (List ℕ) Misquote) → behind a (behind b r) ≡ behind (a ++ b) r
behind_twice a b (Ok rest) = ap (λ x. Ok x) (sym (append_assoc a b rest))
behind_twice a b (Err why) = refl

-- one byte on
pub sent_on : (old new : List ℕ) (place next : LinePosition) (b : ℕ) (bs : List ℕ) (t : Result (List ℕ × LinePosition) Misquote) → typed place b ≡ t
    → PutsTyped old new (Ok next) t → behind new (sent next bs) ≡ behind old (sent place (b ∷ bs))
sent_on old new place next b bs (Ok step) is puts =
    ap (λ xs. behind xs (sent next bs)) puts.0
    ∙ ap (λ p. behind (old ++ step.0) (sent p bs)) puts.1
    ∙ sym (behind_twice old step.0 (sent step.1 bs)) ∙ ap (λ r. behind old (goes_on r (λ later. sent later bs))) (sym is)
sent_on old new place next b bs (Err why) is puts = absurd puts
