use Rattle.std.proofs.Common.{◌≡◌, ◌≤◌, ◌++◌, length, take}
use Rattle.tab_key.specs.Encoding.{records_at, places_from, end_from, AreAt}
use Rattle.tab_mem.specs.Lists.{IsFilled}
use Rattle.tab_mem.specs.Parting.{records_in, from_bound}
use Rattle.tab_mem.proofs.partitions.parting.keep_from.Given as goal

abbrev pub invariant-loop-left : goal.invariant-loop-left
invariant-loop-left l = record {
  order : l.kept.bytes ≤ l.place;
  at : AreAt l.body (places_from l.body l.place l.left);
  ends : end_from l.body l.place l.left ≡ length l.body;
  filled : IsFilled (take l.kept.bytes l.body) l.kept.count;
  records : records_in (take l.kept.bytes l.body) l.kept.count ++ from_bound l.bound (records_at l.body (places_from l.body l.place l.left)) ≡ from_bound l.bound (records_in l.initial.body l.count);
}

abbrev pub decreases-loop-left : goal.decreases-loop-left
decreases-loop-left l = l.left
