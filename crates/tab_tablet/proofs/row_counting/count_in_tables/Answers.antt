use Rattle.std.proofs.Common.{arith}
use Rattle.tab_key.specs.Ranges.{is_in_range}
use Rattle.tab_tablet.proofs.Clipped.{held_next}
use Rattle.tab_tablet.proofs.RowCounts.{counted_next}
use Rattle.tab_tablet.proofs.row_counting.count_in_tables.Goals as goal

pub loop-table-preserved : goal.loop-table-preserved
loop-table-preserved c = (
  omega (arith, c.loop-table.invariant.0, c.count_in.ensures, counted_next (λ u. is_in_range c.args.bounds.now u.key.row) _ c.table-item.result.records _ (held_next c.args.tables.now c.loop-table.table-index c.table-item.result c.loop-table-test.true c.table-item.is)),
  omega (arith, c.loop-table.invariant.1),
)
