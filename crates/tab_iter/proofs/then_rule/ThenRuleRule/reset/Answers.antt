-- At the start of a column each has observed what it needs.
use Rattle.tab_iter.proofs.BothLaws.{begins_both}
use Rattle.tab_iter.proofs.then_rule.ThenRuleRule.reset.Goals as goal

pub returns-clause-observed : goal.returns-clause-observed
returns-clause-observed g c = begins_both (g.A.Rule.admits c.reset.new.self) (g.A.Rule.HasObserved c.reset.new.self) (g.B.Rule.HasObserved c.reset-2.new.self) c.reset.ensures.observed c.reset-2.ensures.observed
