use Rattle.tab_work.specs.Compacting.{compacting, Compacts}
use Rattle.tab_work.proofs.compactor.Compactor.begin_all.Given as goal

abbrev pub invariant-loop-due : goal.invariant-loop-due
invariant-loop-due g l = Compacts (compacting l.fn.self) (compacting l.self)
