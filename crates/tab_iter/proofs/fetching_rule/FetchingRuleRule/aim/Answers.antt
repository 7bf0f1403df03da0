-- Nothing between the record and where the rule aims is of a named column.
use Rattle.std.proofs.Common.{not, sym, ◌∙◌, ap, rules}
use mathlib.Core.Bool.{true≢false}
use Rattle.tab_iter.proofs.NamedColumns.{none_before_aim}
use Rattle.tab_iter.proofs.fetching_rule.FetchingRuleRule.aim.Goals as goal

pub returns-in_ok-push-clause-idle : goal.returns-in_ok-push-clause-idle
returns-in_ok-push-clause-idle c = λ _ w rs up end t. none_before_aim c.args.self.now.columns.now c.first_after-self.result c.push.new.self.items _ c.args.held.now c.key.ensures c.first_after-self.ensures (λ _. search rules) (λ e. absurd (true≢false (sym e ∙ c.is_none.ensures ∙ ap not c.if-is_none.true))) w rs up end

pub returns-else-is_none-clause-idle : goal.returns-else-is_none-clause-idle
returns-else-is_none-clause-idle c = λ _ w rs up end t. none_before_aim c.args.self.now.columns.now c.first_after-self.result c.extend_from_slice.new.self.items _ c.args.held.now c.key.ensures c.first_after-self.ensures (λ e. absurd (true≢false (sym (c.is_none.ensures ∙ ap not c.if-is_none.false) ∙ e))) (λ _. search rules) w rs up end
