use Rattle.std.proofs.Common.{◌≡◌, ◌++◌, ◌+◌, length}
use Rattle.tab_key.specs.Records.{Record}
use Rattle.tab_key.specs.Sorted.{IsDistinct, IsIn, sorted}
use Rattle.tab_mem.proofs.partitions.draining.take_below.Given as goal

abbrev pub invariant-loop-left : goal.invariant-loop-left
invariant-loop-left l = record {
  places : l.at + l.left ≡ length l.bounds;
  distinct : IsDistinct l.written;
  within : (u : Record) → IsIn l.written u → IsIn l.initial.written u;
  kept : l.records ++ sorted l.written ≡ l.initial.records ++ sorted l.initial.written;
}

abbrev pub decreases-loop-left : goal.decreases-loop-left
decreases-loop-left l = l.left
