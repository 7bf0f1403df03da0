use Rattle.std.proofs.Common.{◌≡◌, ◌++◌, take}
use Rattle.tab_iter.specs.Bags.{flat}
use Rattle.tab_mem.proofs.partitions.layout.lend_all.Given as goal

abbrev pub invariant-loop-records : goal.invariant-loop-records
invariant-loop-records l = l.items.items ≡ l.initial.items.items ++ flat (take l.records-index l.higher)
