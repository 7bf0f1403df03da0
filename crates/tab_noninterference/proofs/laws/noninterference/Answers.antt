use Rattle.tab_noninterference.proofs.EqualViews.{two_worlds}
use Rattle.tab_noninterference.proofs.laws.noninterference.Goals as goal

pub returns : goal.returns
returns c = two_worlds
