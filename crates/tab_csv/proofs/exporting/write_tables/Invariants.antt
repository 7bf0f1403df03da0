use Rattle.std.proofs.Common.{take}
use Rattle.std.specs.List.{flat_map}
use Rattle.tab_csv.specs.CsvTexts.{table_csv}
use Rattle.tab_csv.specs.Rows.{Writes}
use Rattle.tab_csv.proofs.exporting.write_tables.Given as goal

abbrev pub invariant-loop-table : goal.invariant-loop-table
invariant-loop-table g l = Writes g.W.Write.contents l.initial.rows l.rows (flat_map table_csv (take l.table-index l.tables))
