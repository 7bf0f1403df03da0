use Rattle.std.proofs.Common.{subst}
use Rattle.tab_image.specs.declared.table.ImageTable.{ImageTable}
use Rattle.tab_csv.specs.CsvTexts.{table_csv}
use Rattle.tab_csv.specs.Rows.{Writes}
use Rattle.tab_csv.proofs.RowLemmas.{each_written}
use Rattle.tab_csv.proofs.exporting.write_tables.Goals as goal

pub loop-table-preserved : goal.loop-table-preserved
loop-table-preserved g c =
    each_written g.W.Write.contents c.args.rows.now c.loop-table.rows c.write_table.new.rows table_csv c.args.tables.now c.loop-table.table-index c.table-item.result c.loop-table-test.true c.loop-table.invariant
    (subst (λ (t : ImageTable). Writes g.W.Write.contents c.loop-table.rows c.write_table.new.rows (table_csv t)) c.table-item.is c.in-Ok.ensures)
