use Rattle.std.proofs.Common.{rules}
use Rattle.tab_tablet.proofs.Counted.{capped, sizes_next}
use Rattle.tab_tablet.proofs.counting.total_size.Goals as goal

pub loop-table-preserved : goal.loop-table-preserved
loop-table-preserved c = search (rules, capped, sizes_next c.args.tables.now c.loop-table.table-index c.table-item.result c.loop-table-test.true c.table-item.is)
