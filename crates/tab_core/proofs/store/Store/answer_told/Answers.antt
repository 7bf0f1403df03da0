use Rattle.std.proofs.Common.{◌≡◌, inl, inr, ℤ, [], None, sym, ap, ◌∙◌, subst, rules, to_z, of_z, w64}
use Rattle.tab_session.specs.OpenSession.{OpenSession}
use Rattle.tab_history.specs.Answers.{event_answer, told_of}
use Rattle.tab_history.specs.declared.event.Act.{Act}
use Rattle.tab_history.specs.declared.reply.Reply.{Reply}
use Rattle.tab_store.specs.Parts.{TabletMerge}
use Rattle.tab_store.specs.Stores.{base_of}
use Rattle.tab_core.specs.Holding.{held}
use Rattle.tab_core.specs.Stepping.{Acts}
use Rattle.tab_core.proofs.Forgetting.{forgotten, forgotten_whole}
use Rattle.tab_core.specs.Spending.{left_of}
use Rattle.tab_core.proofs.store.Store.answer_told.Goals as goal

pub returns-clause-acts : goal.returns-clause-acts
returns-clause-acts c =
    let trip : to_z w64 (of_z w64 c.args.now) ≡ c.args.now = search rules in
    let acts : Acts (event_answer (base_of (held c.args.self.now)) [] c.args.now c.args.user.now c.args.act.now) (held c.args.self.now) c.args.now None c.args.user.now c.args.act.now c.answer.result (held c.answer.new.self) =
    subst (λ (t : ℤ). Acts (event_answer (base_of (held c.args.self.now)) [] t c.args.user.now c.args.act.now) (held c.args.self.now) t None c.args.user.now c.args.act.now c.answer.result (held c.answer.new.self)) trip c.answer.ensures.acts in
    let P : Reply OpenSession TabletMerge → Type 0 = λ r. Acts (event_answer (base_of (held c.args.self.now)) [] c.args.now c.args.user.now c.args.act.now) (held c.args.self.now) c.args.now None c.args.user.now c.args.act.now r (held c.answer.new.self) in
    elim c.copied.ensures.reply [
      | inl same ↦ subst P (sym same) acts
      | inr lacks ↦ subst P (sym lacks.1) (forgotten (held c.args.self.now) (held c.answer.new.self) c.args.now c.args.user.now c.args.act.now c.answer.result lacks.0 acts)
    ]

pub returns-clause-left : goal.returns-clause-left
returns-clause-left c =
    let leaves : Reply OpenSession TabletMerge → Act = λ r. left_of c.args.act.now (told_of r) in
    elim c.copied.ensures.reply [
      | inl same ↦ c.answer.ensures.left ∙ ap leaves (sym same)
      | inr lacks ↦ c.answer.ensures.left ∙ forgotten_whole (held c.args.self.now) (held c.answer.new.self) (to_z w64 (of_z w64 c.args.now)) c.args.user.now c.args.act.now c.answer.result lacks.0 c.answer.ensures.acts ∙ ap leaves (sym lacks.1)
    ]
