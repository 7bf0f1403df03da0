use Rattle.std.proofs.Common.{subst, sym}
use Rattle.tab_mem.specs.Parting.{row_below}
use Rattle.tab_key.specs.Sorted.{IsDistinct}
use Rattle.tab_key.proofs.Rising.{distinct_filter}
use Rattle.tab_mem.proofs.partitions.draining.put_items_before.Goals as goal

pub put_items-requires : goal.put_items-requires
put_items-requires c = subst IsDistinct (sym c.in_ok-items.ensures) (distinct_filter (λ u. row_below u c.args.bound.now) c.args.written.now c.requires)
