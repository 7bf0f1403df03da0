-- What is left of a marker's column is hidden.
use Rattle.std.proofs.Common.{sym, ◌∙◌}
use Rattle.std.proofs.Math.Logic.{∥∥₁_elim}
use Rattle.std.specs.Coded.{Coded-set, coded_bool}
use Rattle.tab_iter.proofs.NextColumns.{next_ahead}
use Rattle.tab_iter.proofs.Idle.{none_left}
use Rattle.tab_iter.proofs.deleting_rule.DeletingRuleRule.aim.Goals as goal

pub returns-clause-ahead : goal.returns-clause-ahead
returns-clause-ahead c = λ e. next_ahead c.args.self.now.column c.args.held.now.key (sym c.is_of.ensures ∙ e)

pub returns-clause-idle : goal.returns-clause-idle
returns-clause-idle c = λ e w rs up end t _ u h l. ∥∥₁_elim t (Coded-set coded_bool _ _) (λ t. none_left c.args.self.now.column w c.args.held.now rs up end (sym c.is_of.ensures ∙ e) c.args.self.now.keeps t c.if-self.false u h l)
