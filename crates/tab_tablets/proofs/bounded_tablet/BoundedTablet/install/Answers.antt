-- The end row takes no part in it.
use Rattle.std.proofs.Common.{◌≡◌, ◌∙◌, sym, ap, subst}
use Rattle.std.specs.Prelude.{Some, IfOk}
use Rattle.std.proofs.lemmas.Result.{on_ok_weaker}
use Rattle.tab_tablet.specs.Tablets.{Tablet, installed}
use Rattle.tab_tablet.specs.declared.installed.Installed.{Installed}
use Rattle.tab_tablets.specs.Places.{ended}
use Rattle.tab_tablets.proofs.InParts.{told_ended, installed_ended}
use Rattle.tab_tablets.proofs.bounded_tablet.BoundedTablet.install.Goals as goal

pub returns-clause-told : goal.returns-clause-told
returns-clause-told c =
    subst (λ (x : Installed). IfOk c.install.result (λ told. told ≡ x))
    (ap (λ (t : Tablet). (installed c.args.finished t).0) c.deref_mut.ensures.value
    ∙ sym (told_ended c.args.finished (Some c.self.inside.end) c.self.inside.tablet.value)
    ∙ ap (λ (t : Tablet). (installed c.args.finished t).0) c.self.view_is)
    c.install.ensures.told

pub returns-clause-ok : goal.returns-clause-ok
returns-clause-ok c =
    on_ok_weaker c.install.result
    (λ e. ap (ended (Some c.self.inside.end)) (e ∙ ap (λ (t : Tablet). (installed c.args.finished t).1) c.deref_mut.ensures.value)
    ∙ sym (installed_ended c.args.finished (Some c.self.inside.end) c.self.inside.tablet.value)
    ∙ ap (λ (t : Tablet). (installed c.args.finished t).1) c.self.view_is)
    c.install.ensures.ok
