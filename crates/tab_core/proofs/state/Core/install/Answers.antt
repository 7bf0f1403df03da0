use Rattle.std.proofs.Common.{subst, rules, to_z, of_z, w64, Some}
use Rattle.tab_history.specs.Answers.{told_of, job_of}
use Rattle.tab_store.specs.Stores.{CoreContents, base_of}
use Rattle.tab_store.specs.Stepping.{StepsExactly}
use Rattle.tab_core.specs.Holding.{held}
use Rattle.tab_core.specs.Stepping.{Steps, installs_at}
use Rattle.tab_core.proofs.Steps.{StepsWell, well}
use Rattle.tab_core.proofs.state.Core.install.Goals as goal

pub invariant_of-self : goal.invariant_of-self
invariant_of-self c =
    (well (held c.self.inside.store) (held c.answer_install-answer.new.self) (Some c.args.finished) (installs_at c.args.user.now c.args.moment c.args.table.now c.args.finished) c.answer_install-answer.result c.later-now.result (to_z w64 (of_z w64 c.later-now.result)) c.move_clock.new.clock
    c.self.invariant tt tt (search rules) (search rules) c.answer_install-answer.ensures (search rules)).core

pub returns-clause-steps : goal.returns-clause-steps
returns-clause-steps c =
    let done : StepsWell (held c.self.inside.store) (Some c.args.finished) (installs_at c.args.user.now c.args.moment c.args.table.now c.args.finished) c.answer_install-answer.result (record (held c.answer_install-answer.new.self) { clock = c.move_clock.new.clock }) =
    well (held c.self.inside.store) (held c.answer_install-answer.new.self) (Some c.args.finished) (installs_at c.args.user.now c.args.moment c.args.table.now c.args.finished) c.answer_install-answer.result c.later-now.result (to_z w64 (of_z w64 c.later-now.result)) c.move_clock.new.clock
    c.self.invariant tt tt (search rules) (search rules) c.answer_install-answer.ensures (search rules) in
    subst (λ (h : CoreContents). Steps (base_of h) (installs_at c.args.user.now c.args.moment c.args.table.now c.args.finished) c.answer_install-answer.result (base_of (record (held c.answer_install-answer.new.self) { clock = c.move_clock.new.clock }))) c.self.view_is done.steps

pub returns-clause-exact : goal.returns-clause-exact
returns-clause-exact c =
    let done : StepsWell (held c.self.inside.store) (Some c.args.finished) (installs_at c.args.user.now c.args.moment c.args.table.now c.args.finished) c.answer_install-answer.result (record (held c.answer_install-answer.new.self) { clock = c.move_clock.new.clock }) =
    well (held c.self.inside.store) (held c.answer_install-answer.new.self) (Some c.args.finished) (installs_at c.args.user.now c.args.moment c.args.table.now c.args.finished) c.answer_install-answer.result c.later-now.result (to_z w64 (of_z w64 c.later-now.result)) c.move_clock.new.clock
    c.self.invariant tt tt (search rules) (search rules) c.answer_install-answer.ensures (search rules) in
    subst (λ (h : CoreContents). StepsExactly h (Some c.args.finished) (installs_at c.args.user.now c.args.moment c.args.table.now c.args.finished) (told_of c.answer_install-answer.result) (job_of c.answer_install-answer.result) (record (held c.answer_install-answer.new.self) { clock = c.move_clock.new.clock })) c.self.view_is done.exact
