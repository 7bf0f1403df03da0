use Rattle.std.proofs.Common.{sym}
use Rattle.tab_table.specs.Blocks.{no_key}
use Rattle.tab_table.proofs.Laid.{length_listed, laid_short}
use Rattle.tab_table.proofs.sorted_table.SortedTable.len.Goals as goal

pub returns-clause-len : goal.returns-clause-len
returns-clause-len c = let packed = c.args.self.now.packed in sym (length_listed packed.bytes 0 no_key 0 packed.count)

pub returns-clause-short : goal.returns-clause-short
returns-clause-short c = let packed = c.args.self.now.packed in laid_short packed.bytes 0 no_key 0 packed.count packed.laid
