-- The part lies in the table.
use Rattle.std.proofs.Common.{ap, arith}
use Rattle.tab_table.specs.Blocks.{no_key}
use Rattle.tab_table.specs.declared.sorted_table.SortedTable.{SortedTable}
use Rattle.tab_table.proofs.Laid.{length_listed}
use Rattle.tab_table.proofs.cursor.TableCursor.find.Goals as goal

pub find-requires-clause-inside : goal.find-requires-clause-inside
find-requires-clause-inside g c =
    let table = g.T.HasSortedTable.table c.args.self.now.table in
    omega (arith, c.requires.high, c.args.self.now.inside, length_listed table.packed.bytes 0 no_key 0 table.packed.count, ap (λ (t : SortedTable). t.packed.count) c.table.ensures)
