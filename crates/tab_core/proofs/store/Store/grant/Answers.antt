use Rattle.std.proofs.Common.{◌≡◌, Some, None, refl, subst, sym, ap, ◌∙◌}
use Rattle.tab_mutation.specs.Shape.{first_some}
use Rattle.tab_policy.specs.State.{State, user_exists}
use Rattle.tab_history.specs.declared.event.Act.TheVariants as act
use Rattle.tab_history.specs.declared.reply.Refusal.TheVariants.{NoMemory}
use Rattle.tab_history.specs.declared.reply.Reply.TheVariants.{Refused}
use Rattle.tab_history.specs.Checks.{right_checks}
use Rattle.tab_core.specs.Holding.{held}
use Rattle.tab_core.specs.Stepping.{Does}
use Rattle.tab_core.proofs.Acting.{lacked}
use Rattle.tab_core.proofs.PolicyActs.{grant_refused, right_given}
use Rattle.tab_core.proofs.store.Store.grant.Goals as goal

pub returns-in-Some : goal.returns-in-Some
returns-in-Some c =
    let fails : first_some (right_checks (user_exists c.args.self.now.policy c.args.name.now) c.args.name.now c.args.permission.now) ≡ Some c.in-Some.refusal =
    ap (λ v. first_some (right_checks v c.args.name.now c.args.permission.now)) (sym c.user_exists-known.ensures) ∙ sym c.right_refusal.ensures ∙ c.in-Some.is in
    grant_refused (held c.args.self.now) c.args.now c.args.user.now c.args.name.now c.args.permission.now c.in-Some.refusal c.requires.core fails

pub returns-in-Ok : goal.returns-in-Ok
returns-in-Ok c =
    let passes : first_some (right_checks (user_exists c.args.self.now.policy c.args.name.now) c.args.name.now c.args.permission.now) ≡ None =
    ap (λ v. first_some (right_checks v c.args.name.now c.args.permission.now)) (sym c.user_exists-known.ensures) ∙ sym c.right_refusal.ensures ∙ c.in_default.is in
    right_given (held c.args.self.now) c.grant.new.self c.args.now c.args.user.now c.args.name.now c.args.permission.now c.requires.core c.requires.admitted passes c.in-Ok.ensures.ok

pub returns-in-Err : goal.returns-in-Err
returns-in-Err c =
    subst (λ (p : State). Does c.args.self.now c.args.now c.args.user.now (act.Grant c.args.name.now c.args.permission.now) (Refused NoMemory) (record (c.args.self.now) { policy = p })) (sym c.in-Err.ensures.err)
    (lacked _ (held c.args.self.now) c.args.now c.args.user.now (act.Grant c.args.name.now c.args.permission.now) refl c.requires.core)
