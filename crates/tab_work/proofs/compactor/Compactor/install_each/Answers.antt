use Rattle.tab_work.proofs.Following.{joined}
use Rattle.tab_work.proofs.compactor.Compactor.install_each.Goals as goal

pub loop-merge-preserved : goal.loop-merge-preserved
loop-merge-preserved g c = joined _ _ _ c.loop-merge.invariant c.install-is_done.ensures
