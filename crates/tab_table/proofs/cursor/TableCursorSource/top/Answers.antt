use Rattle.std.proofs.Common.{sym, arith}
use Rattle.tab_mem.proofs.Cursors.{first_left}
use Rattle.tab_table.specs.SortedTables.{records}
use Rattle.tab_table.proofs.cursor.TableCursorSource.top.Goals as goal

pub returns-then-self : goal.returns-then-self
returns-then-self g c =
    let self = c.args.self.now in
    let table = g.T.HasSortedTable.table self.table in
    first_left self.from self.at self.end (records table) c.get.result self.ordered (omega arith) self.inside (c.get.ensures table.packed.bytes table.packed.count c.get.result self.decoded)

pub get-requires : goal.get-requires
get-requires g c = c.args.self.now.here (omega arith)
