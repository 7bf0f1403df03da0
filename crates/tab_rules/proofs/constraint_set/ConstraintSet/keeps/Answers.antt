use Rattle.tab_rules.specs.ConstraintFlags.{is_up}
use Rattle.tab_rules.proofs.OneForm.{one_form}
use Rattle.tab_rules.proofs.constraint_set.ConstraintSet.keeps.Goals as goal

pub returns : goal.returns
returns c = rw (← c.self.view_is) (one_form (is_up c.self.inside))
