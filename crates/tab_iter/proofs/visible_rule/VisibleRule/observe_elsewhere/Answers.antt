use Rattle.tab_iter.proofs.visible_rule.VisibleRule.observe_elsewhere.Goals as goal

pub invariant_of-self : goal.invariant_of-self
invariant_of-self c = record { sound = c.hint.ensures _ c.judge_at.new.self.sound }
