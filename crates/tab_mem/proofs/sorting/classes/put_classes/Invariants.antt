use Rattle.std.proofs.Common.{◌≡◌, ◌++◌, ◌-◌, length, take, drop}
use Rattle.tab_key.specs.Sorted.{sorted}
use Rattle.tab_iter.specs.Bags.{flat}
use Rattle.tab_mem.proofs.sorting.classes.put_classes.Given as goal

abbrev pub invariant-loop-at : goal.invariant-loop-at
invariant-loop-at l = record {
  rest : l.records ++ sorted (flat (drop l.at l.groups)) ≡ l.initial.records ++ sorted (flat l.groups);
  front : take (length l.initial.records) l.records ≡ l.initial.records;
}

abbrev pub decreases-loop-at : goal.decreases-loop-at
decreases-loop-at l = length l.groups - l.at
