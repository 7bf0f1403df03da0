use Rattle.std.proofs.Common.{subst, rules, to_z, of_z, w64, None}
use Rattle.tab_history.specs.declared.event.Act.TheVariants.{Open}
use Rattle.tab_history.specs.declared.event.Event.{Event}
use Rattle.tab_store.specs.Stores.{CoreContents, base_of}
use Rattle.tab_core.specs.Holding.{held}
use Rattle.tab_core.specs.Stepping.{Steps, StepsWith, asked_at}
use Rattle.tab_core.proofs.Steps.{StepsWell, well, steps_alone}
use Rattle.tab_core.proofs.state.Core.open_lent.Goals as goal

pub invariant_of-self : goal.invariant_of-self
invariant_of-self c =
    (well (held c.self.inside.store) (held c.answer_open-reply.new.self) None (asked_at c.args.user.now c.args.moment (Open c.args.scan.now)) c.answer_open-reply.result c.later-now.result (to_z w64 (of_z w64 c.later-now.result)) c.move_clock.new.clock
    c.self.invariant tt tt (search rules) (search rules) c.answer_open-reply.ensures.acts (search rules)).core

pub returns-clause-steps : goal.returns-clause-steps
returns-clause-steps c =
    let event : Event = asked_at c.args.user.now c.args.moment (Open c.args.scan.now) in
    let done : StepsWell (held c.self.inside.store) None event c.answer_open-reply.result (record (held c.answer_open-reply.new.self) { clock = c.move_clock.new.clock }) =
    well (held c.self.inside.store) (held c.answer_open-reply.new.self) None event c.answer_open-reply.result c.later-now.result (to_z w64 (of_z w64 c.later-now.result)) c.move_clock.new.clock
    c.self.invariant tt tt (search rules) (search rules) c.answer_open-reply.ensures.acts (search rules) in
    subst (λ (h : CoreContents). Steps (base_of h) event c.answer_open-reply.result (base_of (record (held c.answer_open-reply.new.self) { clock = c.move_clock.new.clock }))) c.self.view_is done.steps

pub returns-clause-exact : goal.returns-clause-exact
returns-clause-exact c =
    let event : Event = asked_at c.args.user.now c.args.moment (Open c.args.scan.now) in
    let done : StepsWell (held c.self.inside.store) None event c.answer_open-reply.result (record (held c.answer_open-reply.new.self) { clock = c.move_clock.new.clock }) =
    well (held c.self.inside.store) (held c.answer_open-reply.new.self) None event c.answer_open-reply.result c.later-now.result (to_z w64 (of_z w64 c.later-now.result)) c.move_clock.new.clock
    c.self.invariant tt tt (search rules) (search rules) c.answer_open-reply.ensures.acts (search rules) in
    subst (λ (h : CoreContents). StepsWith h None event c.answer_open-reply.result (record (held c.answer_open-reply.new.self) { clock = c.move_clock.new.clock })) c.self.view_is (steps_alone (held c.self.inside.store) (record (held c.answer_open-reply.new.self) { clock = c.move_clock.new.clock }) None event c.answer_open-reply.result tt done)
