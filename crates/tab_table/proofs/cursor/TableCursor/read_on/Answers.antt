use Rattle.std.proofs.Common.{ap, arith}
use Rattle.tab_table.specs.Blocks.{no_key}
use Rattle.tab_table.specs.declared.sorted_table.SortedTable.{SortedTable}
use Rattle.tab_table.proofs.Laid.{length_listed}
use Rattle.tab_table.proofs.cursor.TableCursor.read_on.Goals as goal

pub reach-requires-clause-inside : goal.reach-requires-clause-inside
reach-requires-clause-inside g c =
    let table = g.T.HasSortedTable.table c.args.self.now.table in
    omega (arith, c.requires, c.args.self.now.inside, length_listed table.packed.bytes 0 no_key 0 table.packed.count, ap (λ (t : SortedTable). t.packed.count) c.table.ensures)
