use Rattle.tab_work.proofs.Following.{joined}
use Rattle.tab_work.proofs.compactor.Compactor.begin_all.Goals as goal

pub loop-due-preserved : goal.loop-due-preserved
loop-due-preserved g c = joined _ _ _ c.loop-due.invariant c.begin_claimed.ensures
