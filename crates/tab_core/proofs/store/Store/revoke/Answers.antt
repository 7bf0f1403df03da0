use Rattle.std.proofs.Common.{◌≡◌, Some, None, sym, ap, ◌∙◌}
use Rattle.tab_mutation.specs.Shape.{first_some}
use Rattle.tab_policy.specs.State.{user_exists}
use Rattle.tab_history.specs.Checks.{right_checks}
use Rattle.tab_core.specs.Holding.{held}
use Rattle.tab_core.proofs.PolicyActs.{revoke_refused, right_taken}
use Rattle.tab_core.proofs.store.Store.revoke.Goals as goal

pub returns-in-Some : goal.returns-in-Some
returns-in-Some c =
    let fails : first_some (right_checks (user_exists c.args.self.now.policy c.args.name.now) c.args.name.now c.args.permission.now) ≡ Some c.in-Some.refusal =
    ap (λ v. first_some (right_checks v c.args.name.now c.args.permission.now)) (sym c.user_exists-known.ensures) ∙ sym c.right_refusal.ensures ∙ c.in-Some.is in
    revoke_refused (held c.args.self.now) c.args.now c.args.user.now c.args.name.now c.args.permission.now c.in-Some.refusal c.requires fails

pub returns : goal.returns
returns c =
    let passes : first_some (right_checks (user_exists c.args.self.now.policy c.args.name.now) c.args.name.now c.args.permission.now) ≡ None =
    ap (λ v. first_some (right_checks v c.args.name.now c.args.permission.now)) (sym c.user_exists-known.ensures) ∙ sym c.right_refusal.ensures ∙ c.in_default.is in
    right_taken (held c.args.self.now) c.revoke.new.self c.args.now c.args.user.now c.args.name.now c.args.permission.now c.requires passes c.revoke.ensures
