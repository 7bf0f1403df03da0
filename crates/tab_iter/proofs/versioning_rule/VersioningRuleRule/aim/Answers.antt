-- What is left of a column of which as many have passed as may is held back.
use Rattle.std.proofs.Common.{◌≡◌, sym, ◌∙◌, arith}
use Rattle.std.proofs.Math.Logic.{∥∥₁_elim}
use Rattle.std.specs.Coded.{Coded-set, coded_bool}
use Rattle.tab_iter.proofs.NextColumns.{next_ahead}
use Rattle.tab_iter.proofs.Idle.{none_among}
use Rattle.tab_iter.proofs.versioning_rule.VersioningRuleRule.aim.Goals as goal

pub returns-clause-ahead : goal.returns-clause-ahead
returns-clause-ahead c = λ e. next_ahead c.args.self.now.column c.args.held.now.key (sym c.is_of.ensures ∙ e)

pub returns-clause-idle : goal.returns-clause-idle
returns-clause-idle c =
    let none : c.args.self.now.left ≡ 0 = omega arith in
    λ e w rs up end t _ u h l. ∥∥₁_elim t (Coded-set coded_bool _ _) (λ t. none_among c.args.self.now.column w c.args.held.now rs up end (sym c.is_of.ensures ∙ e) c.args.self.now.keeps c.args.self.now.most c.args.self.now.left t c.if-self.false none u h l)
