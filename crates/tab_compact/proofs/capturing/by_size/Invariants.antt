-- The tables from here on are in the order of their sizes.
use Rattle.std.proofs.Common.{◌≡◌, ◌≤◌, length, drop}
use Rattle.tab_compact.specs.Merges.{by_size}
use Rattle.tab_compact.proofs.capturing.by_size.Given as goal

abbrev pub invariant-loop-left : goal.invariant-loop-left
invariant-loop-left l = record {
  sorted : l.sorted.items ≡ by_size (drop l.left l.tables);
  within : l.left ≤ length l.tables;
}

abbrev pub decreases-loop-left : goal.decreases-loop-left
decreases-loop-left l = l.left
