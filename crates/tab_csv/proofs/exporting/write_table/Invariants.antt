use Rattle.tab_csv.specs.Rows.{TableSoFar}
use Rattle.tab_csv.proofs.exporting.write_table.Given as goal

abbrev pub invariant-loop-index : goal.invariant-loop-index
invariant-loop-index g l = TableSoFar g.W.Write.contents l.initial.rows l.rows l.table l.records l.begin l.index
