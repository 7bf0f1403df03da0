use Rattle.std.proofs.Common.{◌≡◌, ℤ, None, subst, rules, to_z, of_z, w64}
use Rattle.tab_store.specs.Stores.{base_of}
use Rattle.tab_core.specs.Stepping.{Steps, StepsWith, asked_at}
use Rattle.tab_core.proofs.state.Core.step.Goals as goal

pub returns-clause-steps : goal.returns-clause-steps
returns-clause-steps c =
    let trip : to_z w64 (of_z w64 c.args.event.moment) ≡ c.args.event.moment = search rules in
    subst (λ (m : ℤ). Steps (base_of c.args.self.now) (asked_at c.args.event.user m c.args.event.act) c.step_lent.result (base_of c.step_lent.new.self)) trip c.step_lent.ensures.steps

pub returns-clause-exact : goal.returns-clause-exact
returns-clause-exact c =
    let trip : to_z w64 (of_z w64 c.args.event.moment) ≡ c.args.event.moment = search rules in
    subst (λ (m : ℤ). StepsWith c.args.self.now None (asked_at c.args.event.user m c.args.event.act) c.step_lent.result c.step_lent.new.self) trip c.step_lent.ensures.exact
