use Rattle.std.proofs.Common.{◌≡◌, ◌+◌, ◌*◌, ◌<◌, ◌^◌, ◌∷◌, length, take}
use Rattle.tab_iter.specs.Bags.{flat}
use Rattle.tab_mem.proofs.partitions.layout.count_all.Given as goal

abbrev pub invariant-loop-records : goal.invariant-loop-records
invariant-loop-records l = record {
  count : l.count ≡ length (flat (l.lowest ∷ take l.records-index l.higher));
  few : 41 * l.count < (l.records-index + 1) * 2 ^ 63;
}
