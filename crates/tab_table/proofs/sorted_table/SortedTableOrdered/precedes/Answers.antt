use Rattle.std.proofs.Common.{arith}
use Rattle.tab_table.specs.Blocks.{no_key}
use Rattle.tab_table.proofs.Laid.{length_listed}
use Rattle.tab_table.proofs.sorted_table.SortedTableOrdered.precedes.Goals as goal

pub precedes-requires : goal.precedes-requires
precedes-requires c = let packed = c.args.self.now.packed in omega (arith, c.requires, length_listed packed.bytes 0 no_key 0 packed.count)
