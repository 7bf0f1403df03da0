use Rattle.std.proofs.Common.{take}
use Rattle.tab_csv.specs.Rows.{Writes, run_of, run_text}
use Rattle.tab_csv.proofs.exporting.write_run.Given as goal

abbrev pub invariant-loop-index : goal.invariant-loop-index
invariant-loop-index g l = Writes g.W.Write.contents l.initial.rows l.rows (run_text l.table (take l.index (run_of l.records l.begin l.end)))
