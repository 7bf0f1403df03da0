use Rattle.tab_iter.proofs.visible_rule.VisibleRule.observe_unguessed.Goals as goal

pub invariant_of-self : goal.invariant_of-self
invariant_of-self c = record { sound = c.note_guess.ensures _ c.observe_label.new.self.sound }
