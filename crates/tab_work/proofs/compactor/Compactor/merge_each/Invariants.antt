use Rattle.tab_work.specs.Compacting.{compacting, Compacts}
use Rattle.tab_work.proofs.compactor.Compactor.merge_each.Given as goal

abbrev pub invariant-loop-merge : goal.invariant-loop-merge
invariant-loop-merge g l = Compacts (compacting l.fn.self) (compacting l.self)
