use Rattle.tab_store.proofs.Fewer.{fewer_keeps}
use Rattle.tab_store.proofs.laws.fewer_keeps.Goals as goal

pub returns : goal.returns
returns c = fewer_keeps
