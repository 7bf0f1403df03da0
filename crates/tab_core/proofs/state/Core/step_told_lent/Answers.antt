use Rattle.std.proofs.Common.{◌≡◌, inl, inr, sym, ap, ◌∙◌, subst, rules, to_z, of_z, w64, None}
use Rattle.tab_session.specs.OpenSession.{OpenSession}
use Rattle.tab_history.specs.declared.reply.Refusal.TheVariants.{NoJob}
use Rattle.tab_history.specs.declared.reply.Reply.{Reply}
use Rattle.tab_history.specs.declared.reply.Reply.TheVariants.{Refused}
use Rattle.tab_store.specs.Parts.{TabletMerge}
use Rattle.tab_history.specs.Answers.{told_of}
use Rattle.tab_store.specs.Stores.{CoreContents, base_of}
use Rattle.tab_core.specs.Holding.{held}
use Rattle.tab_core.specs.EventReplies.{is_long}
use Rattle.tab_core.specs.Recording.{StepsOn}
use Rattle.tab_core.specs.Stepping.{asked_at}
use Rattle.tab_core.proofs.Steps.{StepsWell, aside, well, steps_alone}
use Rattle.tab_core.proofs.Recorded.{steps_on}
use Rattle.tab_core.proofs.state.Core.step_told_lent.Goals as goal

-- an Install by a slot
pub returns-in-Some-clause-steps : goal.returns-in-Some-clause-steps
returns-in-Some-clause-steps c =
    let no_event = aside c.args.self.now None (asked_at c.args.user.now c.args.moment c.args.act.now) _ _ c.no_job.ensures.core c.in-Some.ensures.some in
    let there : c.copied.result.0 ≡ Refused (NoJob c.in-Some.slot) = elim c.copied.ensures.reply [ inl same ↦ same ∙ c.no_job.ensures.reply | inr lacks ↦ absurd (cc (sym (ap (λ (r : Reply OpenSession TabletMerge). is_long (told_of r)) c.no_job.ensures.reply) ∙ lacks.0)) ] in
    subst (λ (r : Reply OpenSession TabletMerge). StepsOn c.args.self.now None (asked_at c.args.user.now c.args.moment c.args.act.now) r c.args.self.now) (sym there) (steps_on c.args.self.now c.args.self.now None (asked_at c.args.user.now c.args.moment c.args.act.now) _ no_event.steps no_event.exact)

pub invariant_of-self : goal.invariant_of-self
invariant_of-self c =
    (well (held c.self.inside.store) (held c.answer_told-answered.new.self) None (asked_at c.args.user.now c.args.moment c.args.act.now) c.answer_told-answered.result.0 c.later-now.result (to_z w64 (of_z w64 c.later-now.result)) c.move_clock.new.clock
    c.self.invariant c.keep_markers.ensures c.in_default.ensures.none (search rules) (search rules) c.answer_told-answered.ensures.acts (search rules)).core

pub returns-clause-steps : goal.returns-clause-steps
returns-clause-steps c =
    let done : StepsWell (held c.self.inside.store) None (asked_at c.args.user.now c.args.moment c.args.act.now) c.answer_told-answered.result.0 (record (held c.answer_told-answered.new.self) { clock = c.move_clock.new.clock }) =
    well (held c.self.inside.store) (held c.answer_told-answered.new.self) None (asked_at c.args.user.now c.args.moment c.args.act.now) c.answer_told-answered.result.0 c.later-now.result (to_z w64 (of_z w64 c.later-now.result)) c.move_clock.new.clock
    c.self.invariant c.keep_markers.ensures c.in_default.ensures.none (search rules) (search rules) c.answer_told-answered.ensures.acts (search rules) in
    subst (λ (h : CoreContents). StepsOn h None (asked_at c.args.user.now c.args.moment c.args.act.now) c.answer_told-answered.result.0 (record (held c.answer_told-answered.new.self) { clock = c.move_clock.new.clock })) c.self.view_is
    (steps_on (held c.self.inside.store) (record (held c.answer_told-answered.new.self) { clock = c.move_clock.new.clock }) None (asked_at c.args.user.now c.args.moment c.args.act.now) c.answer_told-answered.result.0 done.steps (steps_alone (held c.self.inside.store) (record (held c.answer_told-answered.new.self) { clock = c.move_clock.new.clock }) None (asked_at c.args.user.now c.args.moment c.args.act.now) c.answer_told-answered.result.0 c.in_default.ensures.none done))
