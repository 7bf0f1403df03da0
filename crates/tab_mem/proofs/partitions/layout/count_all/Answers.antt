use Rattle.std.proofs.Common.{◌≡◌, ◌∙◌, ◌+◌, ap, take, length, length-append, arith}
use Rattle.tab_iter.specs.Bags.{flat}
use Rattle.tab_mem.proofs.ByClass.{flat_next}
use Rattle.tab_mem.proofs.partitions.layout.count_all.Goals as goal

pub loop-records-preserved : goal.loop-records-preserved
loop-records-preserved c =
    let lowest = c.args.lowest.now in
    let higher = c.args.higher.now in
    let index = c.loop-records.records-index in
    let g = c.records-item.result in
    let before = flat (take index higher) in
    let own = c.len-count-in-loop-records.ensures in
    let longer : length (flat (take (index + 1) higher)) ≡ length before + length g = ap length (flat_next higher index g c.loop-records-test.true c.records-item.is) ∙ length-append before g in
    record {
      count = omega (arith, c.loop-records.invariant.count, own.len, longer, length-append lowest before, length-append lowest (flat (take (index + 1) higher)));
      few = omega (arith, c.loop-records.invariant.few, own.few);
    }
