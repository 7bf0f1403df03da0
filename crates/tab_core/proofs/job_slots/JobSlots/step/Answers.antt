use Rattle.std.proofs.Common.{◌≡◌, ℤ, None, false, subst, rules, to_z, of_z, w64}
use Rattle.tab_history.specs.Chains.{NamesNoSlot}
use Rattle.tab_store.specs.Stores.{base_of}
use Rattle.tab_core.specs.JobSlots.{is_begin}
use Rattle.tab_core.specs.Stepping.{Steps, StepsWith, asked_at}
use Rattle.tab_core.proofs.JobLemmas.{keeps_none}
use Rattle.tab_core.proofs.job_slots.JobSlots.step.Goals as goal

pub returns-in-None-clause-steps : goal.returns-in-None-clause-steps
returns-in-None-clause-steps c =
    let none : is_begin c.args.act.now ≡ false = search rules in
    let alone : NamesNoSlot c.args.act.now = c.in-None.ensures.none in
    let trip : to_z w64 (of_z w64 c.args.moment) ≡ c.args.moment = search rules in
    let steps = subst (λ (m : ℤ). Steps (base_of c.args.core.now) (asked_at c.args.user.now m c.args.act.now) c.step_lent.result (base_of c.step_lent.new.self)) trip c.step_lent.ensures.steps in
    let exact = subst (λ (m : ℤ). StepsWith c.args.core.now None (asked_at c.args.user.now m c.args.act.now) c.step_lent.result c.step_lent.new.self) trip c.step_lent.ensures.exact in
    keeps_none c.args.core.now c.step_lent.new.self c.args.self.now (asked_at c.args.user.now c.args.moment c.args.act.now) c.step_lent.result c.told.result none alone steps exact c.told.ensures
