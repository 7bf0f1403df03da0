-- What is found was kept for just this label.
use Rattle.std.proofs.Common.{rules, ◌≡◌, sym, ◌∙◌, ap, subst}
use Rattle.std.proofs.lemmas.Slice.Eq.{bytes_eq-Decides}
use Rattle.tab_label.specs.Holding.{label_holds}
use Rattle.tab_iter.specs.Verdicts.{AreSound}
use Rattle.tab_iter.proofs.KeptVerdicts.{sound_at}
use Rattle.tab_iter.proofs.verdicts.Verdicts.find_at.Goals as goal

pub returns-then-eq : goal.returns-then-eq
returns-then-eq c =
    let found = c.in-Some.ensures.lookup in
    let body = c.deref-in-Some.result.now in
    let lent : c.deref.result.now ≡ c.args.self.now.kept.items = search rules in
    let whole : body ≡ c.args.self.now.body.items = search rules in
    λ auths s.
    let told = sound_at auths body c.deref.result.now c.args.place c.in-Some.found.now found.3.0 found.1 (subst (λ b. AreSound auths b c.deref.result.now) (sym whole) (subst (AreSound auths c.args.self.now.body.items) (sym lent) s.0)) in
    let same = sym (c.label_of.ensures told.0) ∙ (bytes_eq-Decides c.label_of.result.now c.args.label.now).0 (sym c.if-eq.ensures) in
    told.1 ∙ ap (λ l. label_holds l auths) same
