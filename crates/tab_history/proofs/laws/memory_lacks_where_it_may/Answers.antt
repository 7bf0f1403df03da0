use Rattle.tab_history.proofs.Lacking.{memory_lacks_where_it_may}
use Rattle.tab_history.proofs.laws.memory_lacks_where_it_may.Goals as goal

pub returns : goal.returns
returns c = memory_lacks_where_it_may
