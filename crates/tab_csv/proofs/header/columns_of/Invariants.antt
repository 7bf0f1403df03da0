use Rattle.std.proofs.Common.{◌≡◌, drop, length}
use Rattle.csv.specs.Records.{fields_of}
use Rattle.tab_csv.specs.Columns.{columns_from, no_columns}
use Rattle.tab_csv.proofs.header.columns_of.Given as goal

abbrev pub invariant-loop-index : goal.invariant-loop-index
invariant-loop-index l = columns_from l.header l.index (drop l.index (fields_of l.names)) ≡ columns_from (no_columns (length (fields_of l.names))) 0 (fields_of l.names)
