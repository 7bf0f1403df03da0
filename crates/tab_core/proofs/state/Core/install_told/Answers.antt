use Rattle.std.proofs.Common.{◌≡◌, ◌⊎◌, inl, inr, ℤ, Some, sym, ◌∙◌, subst, true, false, rules, to_z, of_z, w64}
use Rattle.tab_session.specs.OpenSession.{OpenSession}
use Rattle.tab_history.specs.declared.reply.Reply.{Reply}
use Rattle.tab_history.specs.Answers.{told_of}
use Rattle.tab_store.specs.Parts.{TabletMerge}
use Rattle.tab_core.specs.EventReplies.{is_long}
use Rattle.tab_core.specs.Recording.{StepsOn}
use Rattle.tab_core.specs.Stepping.{installs_at}
use Rattle.tab_core.proofs.Recorded.{steps_on}
use Rattle.tab_core.proofs.Forgetting.{short_install}
use Rattle.tab_core.proofs.state.Core.install_told.Goals as goal

pub returns-clause-steps : goal.returns-clause-steps
returns-clause-steps c =
    let moment : ℤ = to_z w64 (of_z w64 c.args.moment) in
    let trip : moment ≡ c.args.moment = search rules in
    let short : is_long (told_of c.install.result) ≡ false = short_install c.args.self.now c.install.new.self c.args.finished c.args.user.now moment c.args.table.now c.install.result c.install.ensures.exact in
    let done : StepsOn c.args.self.now (Some c.args.finished) (installs_at c.args.user.now c.args.moment c.args.table.now c.args.finished) c.install.result c.install.new.self =
    subst (λ (m : ℤ). StepsOn c.args.self.now (Some c.args.finished) (installs_at c.args.user.now m c.args.table.now c.args.finished) c.install.result c.install.new.self) trip
    (steps_on c.args.self.now c.install.new.self (Some c.args.finished) (installs_at c.args.user.now moment c.args.table.now c.args.finished) c.install.result c.install.ensures.steps (inl (tt, c.install.ensures.exact))) in
    elim c.copied.ensures.reply [
      | inl same ↦ subst (λ (r : Reply OpenSession TabletMerge). StepsOn c.args.self.now (Some c.args.finished) (installs_at c.args.user.now c.args.moment c.args.table.now c.args.finished) r c.install.new.self) (sym same) done
      | inr lacks ↦ absurd (cc (sym short ∙ lacks.0))
    ]
