use Rattle.std.proofs.Common.{◌≡◌, ℤ, None, subst, rules, to_z, of_z, w64}
use Rattle.tab_core.specs.Recording.{StepsOn}
use Rattle.tab_core.specs.Stepping.{asked_at}
use Rattle.tab_core.proofs.state.Core.step_told.Goals as goal

pub returns-clause-steps : goal.returns-clause-steps
returns-clause-steps c =
    let trip : to_z w64 (of_z w64 c.args.event.moment) ≡ c.args.event.moment = search rules in
    subst (λ (m : ℤ). StepsOn c.args.self.now None (asked_at c.args.event.user m c.args.event.act) c.step_told_lent.result.0 c.step_told_lent.new.self) trip c.step_told_lent.ensures.steps
