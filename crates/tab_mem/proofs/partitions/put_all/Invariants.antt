use Rattle.std.proofs.Common.{◌-◌, ◌≤◌, ◌∷◌, ◌++◌, length, take}
use Rattle.std.specs.List.Sorted.{IsPermutation}
use Rattle.tab_iter.specs.Bags.{flat}
use Rattle.tab_mem.specs.Partitions.{ArePartitions}
use Rattle.tab_mem.proofs.partitions.put_all.Given as goal

abbrev pub invariant-loop-index : goal.invariant-loop-index
invariant-loop-index l = record {
  inside : l.index ≤ length l.items;
  moved : IsPermutation (flat (l.initial.partitions.lowest ∷ l.initial.partitions.higher.items) ++ take l.index l.items) (flat (l.partitions.lowest ∷ l.partitions.higher.items));
  parted : ArePartitions l.partitions.lows.items l.partitions.lowest l.partitions.higher.items;
}

abbrev pub decreases-loop-index : goal.decreases-loop-index
decreases-loop-index l = length l.items - l.index
