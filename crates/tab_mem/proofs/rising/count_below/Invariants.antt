use Rattle.std.proofs.Common.{◌+◌, ◌≤◌, length}
use Rattle.tab_mem.specs.Numbers.{count_below}
use Rattle.tab_mem.proofs.rising.count_below.Given as goal

abbrev pub invariant-loop-left : goal.invariant-loop-left
invariant-loop-left l = record {
  inside : l.from + l.left ≤ length l.numbers;
  below : l.from ≤ count_below l.bound l.numbers;
  within : count_below l.bound l.numbers ≤ l.from + l.left;
}

abbrev pub decreases-loop-left : goal.decreases-loop-left
decreases-loop-left l = l.left
