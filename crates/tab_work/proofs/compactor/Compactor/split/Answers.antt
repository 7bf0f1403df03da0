use Rattle.tab_work.proofs.Following.{joined}
use Rattle.tab_work.proofs.compactor.Compactor.split.Goals as goal

pub returns-then-split : goal.returns-then-split
returns-then-split g c = joined _ _ _ c.split.ensures c.merge_halves.ensures
