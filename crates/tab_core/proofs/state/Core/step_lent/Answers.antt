use Rattle.std.proofs.Common.{sym, subst, rules, to_z, of_z, w64, None}
use Rattle.tab_session.specs.OpenSession.{OpenSession}
use Rattle.tab_history.specs.declared.reply.Reply.{Reply}
use Rattle.tab_store.specs.Parts.{TabletMerge}
use Rattle.tab_store.specs.Stores.{CoreContents, base_of}
use Rattle.tab_core.specs.Holding.{held}
use Rattle.tab_core.specs.Stepping.{Steps, StepsWith, asked_at}
use Rattle.tab_core.proofs.Steps.{StepsWell, aside, well, steps_alone}
use Rattle.tab_core.proofs.state.Core.step_lent.Goals as goal

-- an Install by a slot
pub returns-in-Some-clause-steps : goal.returns-in-Some-clause-steps
returns-in-Some-clause-steps c =
    subst (λ (r : Reply OpenSession TabletMerge). Steps (base_of c.args.self.now) (asked_at c.args.user.now c.args.moment c.args.act.now) r (base_of c.args.self.now)) (sym c.no_job.ensures.reply)
    (aside c.args.self.now None (asked_at c.args.user.now c.args.moment c.args.act.now) _ _ c.no_job.ensures.core c.in-Some.ensures.some).steps

pub returns-in-Some-clause-exact : goal.returns-in-Some-clause-exact
returns-in-Some-clause-exact c =
    subst (λ (r : Reply OpenSession TabletMerge). StepsWith c.args.self.now None (asked_at c.args.user.now c.args.moment c.args.act.now) r c.args.self.now) (sym c.no_job.ensures.reply)
    (aside c.args.self.now None (asked_at c.args.user.now c.args.moment c.args.act.now) _ _ c.no_job.ensures.core c.in-Some.ensures.some).exact

pub invariant_of-self : goal.invariant_of-self
invariant_of-self c =
    (well (held c.self.inside.store) (held c.answer-reply.new.self) None (asked_at c.args.user.now c.args.moment c.args.act.now) c.answer-reply.result c.later-now.result (to_z w64 (of_z w64 c.later-now.result)) c.move_clock.new.clock
    c.self.invariant c.keep_markers.ensures c.in_default.ensures.none (search rules) (search rules) c.answer-reply.ensures.acts (search rules)).core

pub returns-clause-steps : goal.returns-clause-steps
returns-clause-steps c =
    let done : StepsWell (held c.self.inside.store) None (asked_at c.args.user.now c.args.moment c.args.act.now) c.answer-reply.result (record (held c.answer-reply.new.self) { clock = c.move_clock.new.clock }) =
    well (held c.self.inside.store) (held c.answer-reply.new.self) None (asked_at c.args.user.now c.args.moment c.args.act.now) c.answer-reply.result c.later-now.result (to_z w64 (of_z w64 c.later-now.result)) c.move_clock.new.clock
    c.self.invariant c.keep_markers.ensures c.in_default.ensures.none (search rules) (search rules) c.answer-reply.ensures.acts (search rules) in
    subst (λ (h : CoreContents). Steps (base_of h) (asked_at c.args.user.now c.args.moment c.args.act.now) c.answer-reply.result (base_of (record (held c.answer-reply.new.self) { clock = c.move_clock.new.clock }))) c.self.view_is done.steps

pub returns-clause-exact : goal.returns-clause-exact
returns-clause-exact c =
    let done : StepsWell (held c.self.inside.store) None (asked_at c.args.user.now c.args.moment c.args.act.now) c.answer-reply.result (record (held c.answer-reply.new.self) { clock = c.move_clock.new.clock }) =
    well (held c.self.inside.store) (held c.answer-reply.new.self) None (asked_at c.args.user.now c.args.moment c.args.act.now) c.answer-reply.result c.later-now.result (to_z w64 (of_z w64 c.later-now.result)) c.move_clock.new.clock
    c.self.invariant c.keep_markers.ensures c.in_default.ensures.none (search rules) (search rules) c.answer-reply.ensures.acts (search rules) in
    subst (λ (h : CoreContents). StepsWith h None (asked_at c.args.user.now c.args.moment c.args.act.now) c.answer-reply.result (record (held c.answer-reply.new.self) { clock = c.move_clock.new.clock })) c.self.view_is (steps_alone (held c.self.inside.store) (record (held c.answer-reply.new.self) { clock = c.move_clock.new.clock }) None (asked_at c.args.user.now c.args.moment c.args.act.now) c.answer-reply.result c.in_default.ensures.none done)
