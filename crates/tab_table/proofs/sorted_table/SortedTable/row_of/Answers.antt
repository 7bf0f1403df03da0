-- The record is there.
use Rattle.std.proofs.Common.{arith}
use Rattle.tab_table.specs.Blocks.{no_key}
use Rattle.tab_table.proofs.Laid.{length_listed}
use Rattle.tab_table.proofs.sorted_table.SortedTable.row_of.Goals as goal

pub row_of-requires : goal.row_of-requires
row_of-requires c = let packed = c.args.self.now.packed in omega (arith, c.requires, length_listed packed.bytes 0 no_key 0 packed.count)
