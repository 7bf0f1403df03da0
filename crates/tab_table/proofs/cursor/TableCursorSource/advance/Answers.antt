-- One record less is left.
use Rattle.std.proofs.Common.{◌∙◌, ◌-◌, ap, drop}
use Rattle.tab_mem.specs.Lists.{part}
use Rattle.tab_mem.proofs.Cursors.{passed_one}
use Rattle.tab_table.specs.SortedTables.{records}
use Rattle.tab_table.proofs.cursor.TableCursorSource.advance.Goals as goal

pub returns-then-self-clause-rest : goal.returns-then-self-clause-rest
returns-then-self-clause-rest g c =
    let self = c.args.self.now in
    let went = c.go_to.ensures in
    (λ i. drop (c.in_ok-go_to.ensures.at i - went.from i) (part (went.from i) (went.end i) (records (g.T.HasSortedTable.table (went.table i)))))
    ∙ passed_one self.from self.at self.end (records (g.T.HasSortedTable.table self.table)) self.ordered
