use Rattle.std.proofs.Common.{◌≡◌, ◌+◌, [], length}
use Rattle.std.specs.List.{AllByRecursion}
use Rattle.tab_mem.proofs.partitions.empty_partitions.Given as goal

abbrev pub invariant-loop-left : goal.invariant-loop-left
invariant-loop-left l = record {
  many : length l.partitions.items + l.left ≡ l.count;
  none : AllByRecursion (λ us. us ≡ []) l.partitions.items;
}

abbrev pub decreases-loop-left : goal.decreases-loop-left
decreases-loop-left l = l.left
