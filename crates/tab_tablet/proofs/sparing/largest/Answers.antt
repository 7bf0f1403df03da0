use Rattle.std.proofs.Common.{rules}
use Rattle.tab_tablet.proofs.Larger.{largest_next}
use Rattle.tab_tablet.proofs.sparing.largest.Goals as goal

pub loop-table-preserved : goal.loop-table-preserved
loop-table-preserved c =
    search (rules, largest_next c.args.tables.now c.loop-table.table-index c.table-item.result c.loop-table-test.true c.table-item.is)
