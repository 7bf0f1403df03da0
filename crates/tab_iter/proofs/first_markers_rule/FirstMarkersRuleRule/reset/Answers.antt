-- At the start of a column no marker passed leads what follows.
use Rattle.std.proofs.Common.{sym, subst}
use Rattle.tab_iter.specs.Columns.{leads, KnowsLed}
use Rattle.tab_iter.proofs.ColumnLaws.{leading, starts_told}
use Rattle.tab_iter.proofs.first_markers_rule.FirstMarkersRuleRule.reset.Goals as goal

pub returns-clause-observed : goal.returns-clause-observed
returns-clause-observed c = λ w rs up b. ∣ subst (λ column. KnowsLed column w rs) (sym c.forget.ensures) (starts_told leads leading w rs b) ∣₁
