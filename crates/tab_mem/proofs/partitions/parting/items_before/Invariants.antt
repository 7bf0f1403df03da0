use Rattle.std.proofs.Common.{◌≡◌, ◌++◌}
use Rattle.tab_key.specs.Encoding.{records_at, places_from, AreAt}
use Rattle.tab_mem.specs.Parting.{records_in, before}
use Rattle.tab_mem.proofs.partitions.parting.items_before.Given as goal

abbrev pub invariant-loop-left : goal.invariant-loop-left
invariant-loop-left l = record {
  lent : l.items.items ++ before l.bound (records_at l.body (places_from l.body l.place l.left)) ≡ before l.bound (records_in l.body l.count);
  at : AreAt l.body (places_from l.body l.place l.left);
}

abbrev pub decreases-loop-left : goal.decreases-loop-left
decreases-loop-left l = l.left
