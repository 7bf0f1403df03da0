-- At the start of a column no marker passed hides what follows.
use Rattle.std.proofs.Common.{sym, subst}
use Rattle.tab_key.specs.Kept.{hides}
use Rattle.tab_iter.specs.Columns.{KnowsDeleted}
use Rattle.tab_iter.proofs.ColumnLaws.{hiding, starts_told}
use Rattle.tab_iter.proofs.deleting_rule.DeletingRuleRule.reset.Goals as goal

pub returns-clause-observed : goal.returns-clause-observed
returns-clause-observed c = λ w rs up b. ∣ subst (λ column. KnowsDeleted column w rs) (sym c.forget.ensures) (starts_told hides hiding w rs b) ∣₁
