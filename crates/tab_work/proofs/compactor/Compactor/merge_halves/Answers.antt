use Rattle.tab_work.proofs.Following.{joined}
use Rattle.tab_work.proofs.compactor.Compactor.merge_halves.Goals as goal

pub returns-then-merge_above : goal.returns-then-merge_above
returns-then-merge_above g c = joined _ _ _ (joined _ _ _ c.end_of-end.ensures c.merge-is_merged.ensures) c.merge_above.ensures

pub returns-else-merge_above : goal.returns-else-merge_above
returns-else-merge_above g c = joined _ _ _ (joined _ _ _ c.end_of-end.ensures c.merge-is_merged.ensures) c.merge_above.ensures
