use Rattle.std.proofs.Common.{◌≡◌, take}
use Rattle.std.specs.Prelude.{sum_by}
use Rattle.tab_accumulo.specs.Counting.{capped, left_of_table}
use Rattle.tab_accumulo.proofs.left.left_of_tables.Given as goal

abbrev pub invariant-loop-table : goal.invariant-loop-table
invariant-loop-table l = l.left ≡ capped (sum_by left_of_table (take l.table-index l.tables))
