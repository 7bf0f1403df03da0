use Rattle.tab_work.proofs.Following.{joined}
use Rattle.tab_work.proofs.compactor.Compactor.merge_each.Goals as goal

pub loop-merge-preserved : goal.loop-merge-preserved
loop-merge-preserved g c = joined _ _ _ c.loop-merge.invariant c.merge_alone-is_done.ensures
