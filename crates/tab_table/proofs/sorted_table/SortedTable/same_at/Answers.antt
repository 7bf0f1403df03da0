use Rattle.std.proofs.Common.{arith}
use Rattle.tab_table.specs.Blocks.{no_key}
use Rattle.tab_table.proofs.Laid.{length_listed}
use Rattle.tab_table.proofs.sorted_table.SortedTable.same_at.Goals as goal

pub same_at-requires-clause-here : goal.same_at-requires-clause-here
same_at-requires-clause-here c = let packed = c.args.self.now.packed in omega (arith, c.requires.here, length_listed packed.bytes 0 no_key 0 packed.count)

pub same_at-requires-clause-there : goal.same_at-requires-clause-there
same_at-requires-clause-there c = let packed = c.args.other.now.packed in omega (arith, c.requires.there, length_listed packed.bytes 0 no_key 0 packed.count)
