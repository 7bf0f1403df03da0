use Rattle.std.proofs.Common.{◌≡◌, Some, None, refl, sym, ap, ◌∙◌, rules, to_z, of_z, w64}
use Rattle.tab_policy.specs.Decisions.{decision}
use Rattle.tab_policy.specs.State.{standing_of}
use Rattle.tab_history.specs.declared.event.Act.{Act}
use Rattle.tab_history.specs.declared.event.Act.TheVariants.{Install}
use Rattle.tab_history.specs.declared.event.Given.TheVariants.{ByHand}
use Rattle.tab_history.specs.Checks.{denial, action_of}
use Rattle.tab_core.specs.Holding.{held}
use Rattle.tab_core.proofs.Admitting.{denied, admitted}
use Rattle.tab_core.proofs.store.Store.answer_install.Goals as goal

pub returns-in-Err : goal.returns-in-Err
returns-in-Err c =
    let act : Act = Install c.args.table.now (ByHand c.args.finished.merge.number) in
    let d : Some c.in-Err.denial ≡ decision (standing_of c.args.self.now.policy c.args.user.now) (action_of act) = c.in-Err.ensures.decided in
    denied (held c.args.self.now) c.args.now (Some c.args.finished) c.args.user.now act c.refusal_of.result c.requires (sym (c.refusal_of.ensures ∙ ap (denial c.args.user.now) d))

pub returns : goal.returns
returns c =
    let act : Act = Install c.args.table.now (ByHand c.args.finished.merge.number) in
    let trip : to_z w64 (of_z w64 c.args.now) ≡ c.args.now = search rules in
    let d : None ≡ decision (standing_of c.args.self.now.policy c.args.user.now) (action_of act) = c.in_default.ensures.decided in
    admitted (held c.args.self.now) (held c.install.new.self) c.args.now _ (Some c.args.finished) c.args.user.now act act (action_of act) c.install.result c.requires refl d refl trip c.install.ensures
