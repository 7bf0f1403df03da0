use Rattle.std.proofs.Common.{◌∷◌, arith}
use Rattle.tab_iter.specs.Bags.{flat}
use Rattle.tab_mem.proofs.Apart.{moved_next}
use Rattle.tab_mem.proofs.partitions.put_all.Goals as goal

pub loop-index-preserved : goal.loop-index-preserved
loop-index-preserved c =
    let first = c.args.partitions.now in
    let cur = c.loop-index.partitions in
    let now = c.put_one.new.partitions in
    record {
      inside = omega (arith, c.loop-index-test.true);
      moved = moved_next (flat (first.lowest ∷ first.higher.items)) c.args.items.now (flat (cur.lowest ∷ cur.higher.items)) (flat (now.lowest ∷ now.higher.items)) c.loop-index.index c.loop-index-test.true c.loop-index.invariant.moved c.in_ok-put_one.ensures.moved;
      parted = c.put_one.ensures.parted;
    }
