-- Verdicts under the same authorizations.
use Rattle.std.proofs.Common.{◌≡◌, sym, ◌∙◌, subst}
use Rattle.tab_iter.specs.Verdicts.{IsSound}
use Rattle.tab_iter.proofs.KeptVerdicts.{same_strings}
use Rattle.tab_iter.proofs.visible_rule.VisibleRule.into_verdicts.Goals as goal

pub returns-then-eq : goal.returns-then-eq
returns-then-eq c =
    let same : c.args.self.auths.now ≡ c.args.auths.now = sym c.terms.ensures.all ∙ same_strings c.terms.result.now c.terms-2.result.now (sym c.eq.ensures ∙ c.if-eq.true) ∙ c.terms-2.ensures.all in
    subst (λ auths. IsSound auths c.args.self.verdicts) same c.args.self.sound

pub returns-else-eq : goal.returns-else-eq
returns-else-eq c = c.none.ensures c.args.auths.now
