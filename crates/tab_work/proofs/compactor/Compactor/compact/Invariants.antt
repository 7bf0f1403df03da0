use Rattle.tab_work.specs.Compacting.{compacting, Compacts}
use Rattle.tab_work.proofs.compactor.Compactor.compact.Given as goal

abbrev pub invariant-loop : goal.invariant-loop
invariant-loop g l =
    (goal.iterator-loop g).can_next l.iterator' × (goal.iterator-loop g).is_finite l.iterator' × Compacts (compacting l.fn.self) (compacting l.self)
