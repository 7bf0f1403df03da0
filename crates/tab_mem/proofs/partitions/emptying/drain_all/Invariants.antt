use Rattle.std.proofs.Common.{◌≡◌, ◌-◌, ◌≤◌, ◌+◌, ◌++◌, ◌∷◌, [], length, take}
use Rattle.tab_key.specs.Sorted.{IsDistinct, sorted}
use Rattle.tab_iter.specs.Bags.{flat}
use Rattle.tab_mem.specs.Partitions.{ArePartitions}
use Rattle.tab_mem.proofs.partitions.emptying.drain_all.Given as goal

abbrev pub invariant-loop-place : goal.invariant-loop-place
invariant-loop-place l = record {
  inside : l.place ≤ length l.partitions.higher.items;
  none : flat (take (l.place + 1) (l.partitions.lowest ∷ l.partitions.higher.items)) ≡ [];
  kept : l.records ++ sorted (flat (l.partitions.lowest ∷ l.partitions.higher.items)) ≡ l.fn.records ++ sorted (flat (l.fn.partitions.lowest ∷ l.fn.partitions.higher.items));
  distinct : IsDistinct (flat (l.partitions.lowest ∷ l.partitions.higher.items));
  parted : ArePartitions l.partitions.lows.items l.partitions.lowest l.partitions.higher.items;
}

abbrev pub decreases-loop-place : goal.decreases-loop-place
decreases-loop-place l = length l.partitions.higher.items - l.place
