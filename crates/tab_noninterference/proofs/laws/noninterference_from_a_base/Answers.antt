use Rattle.tab_noninterference.proofs.EqualViews.{two_worlds_from_a_base}
use Rattle.tab_noninterference.proofs.laws.noninterference_from_a_base.Goals as goal

pub returns : goal.returns
returns c = two_worlds_from_a_base
