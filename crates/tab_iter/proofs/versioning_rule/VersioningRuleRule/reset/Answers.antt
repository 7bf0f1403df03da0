-- At the start of a column none of its puts was counted.
use Rattle.std.proofs.Common.{sym, subst}
use Rattle.tab_iter.specs.Columns.{KnowsCount}
use Rattle.tab_iter.proofs.ColumnLaws.{starts_count}
use Rattle.tab_iter.proofs.versioning_rule.VersioningRuleRule.reset.Goals as goal

pub returns-clause-observed : goal.returns-clause-observed
returns-clause-observed c = λ w rs up b. ∣ subst (λ column. KnowsCount c.args.self.now.most column c.args.self.now.left w rs) (sym c.forget.ensures) (starts_count _ _ w rs b) ∣₁
