use Rattle.tab_store.proofs.OneTablet.{later_keeps}
use Rattle.tab_store.proofs.laws.later_keeps.Goals as goal

pub returns : goal.returns
returns c = later_keeps
