use Rattle.std.proofs.Common.{rules}
use Rattle.tab_tablet.proofs.Counted.{capped, tables_next}
use Rattle.tab_tablet.proofs.counting.count_in_tables.Goals as goal

pub loop-table-preserved : goal.loop-table-preserved
loop-table-preserved c = search (rules, capped, tables_next c.args.tables.now c.loop-table.table-index c.table-item.result c.loop-table-test.true c.table-item.is)
