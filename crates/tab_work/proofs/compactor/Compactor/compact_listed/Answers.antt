use Rattle.tab_work.proofs.Following.{joined}
use Rattle.tab_work.proofs.compactor.Compactor.compact_listed.Goals as goal

pub returns-else-begins_with_split : goal.returns-else-begins_with_split
returns-else-begins_with_split g c = joined _ _ _ c.begin_all-begun.ensures c.merge_all.ensures
