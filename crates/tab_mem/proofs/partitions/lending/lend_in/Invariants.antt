use Rattle.std.proofs.Common.{◌≡◌, ◌++◌}
use Rattle.tab_key.specs.Encoding.{records_at, places_from, AreAt}
use Rattle.tab_mem.proofs.partitions.lending.lend_in.Given as goal

abbrev pub invariant-loop-left : goal.invariant-loop-left
invariant-loop-left l = record {
  lent : l.items.items ++ records_at l.body (places_from l.body l.place l.left) ≡ l.initial.items.items ++ records_at l.body (places_from l.body 0 l.count);
  at : AreAt l.body (places_from l.body l.place l.left);
}

abbrev pub decreases-loop-left : goal.decreases-loop-left
decreases-loop-left l = l.left
