use Rattle.tab_work.proofs.Following.{joined}
use Rattle.tab_work.proofs.compactor.Compactor.merge.Goals as goal

pub returns-in-Ok : goal.returns-in-Ok
returns-in-Ok g c = joined _ _ _ c.begin.ensures c.install-is_installed.ensures
