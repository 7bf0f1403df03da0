use Rattle.std.proofs.Common.{◌≡◌, ◌++◌, length, take}
use Rattle.tab_mem.specs.Lists.{IsFilled}
use Rattle.tab_mem.specs.Parting.{records_in}
use Rattle.tab_mem.proofs.partitions.appending.append_items.Given as goal

abbrev pub invariant-loop-item : goal.invariant-loop-item
invariant-loop-item l = record {
  bytes : take (length l.initial.body.items) l.body.items ≡ l.initial.body.items;
  filled : IsFilled l.body.items l.count;
  records : records_in l.body.items l.count ≡ records_in l.initial.body.items l.fn.count ++ take l.item-index l.items;
}
