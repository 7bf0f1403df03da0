use Rattle.tab_label.proofs.SetLemmas.{rising_nothing}
use Rattle.tab_label.proofs.auths.AuthSet.empty.Goals as goal

pub invariant_of-result : goal.invariant_of-result
invariant_of-result c = rw c.new.ensures.items rising_nothing
