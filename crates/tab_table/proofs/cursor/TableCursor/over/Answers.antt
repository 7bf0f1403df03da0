-- All of the part is left.
use Rattle.std.proofs.Common.{◌∙◌, ◌-◌, ◌≤◌, ap, drop, arith}
use Rattle.tab_mem.specs.Lists.{part}
use Rattle.tab_mem.proofs.Cursors.{left_part}
use Rattle.tab_table.specs.SortedTables.{records}
use Rattle.tab_table.proofs.cursor.TableCursor.over.Goals as goal

pub returns-clause-whole : goal.returns-clause-whole
returns-clause-whole g c =
    let went = c.go_to.ensures in
    let made = c.unpositioned-cursor.ensures in
    let from = went.from ∙ made.from in
    let end = went.end ∙ made.end in
    let table = ap g.T.HasSortedTable.table went.table ∙ made.table in
    λ i. part (from i) (end i) (records (table i))

pub returns-clause-rest : goal.returns-clause-rest
returns-clause-rest g c =
    let went = c.go_to.ensures in
    let made = c.unpositioned-cursor.ensures in
    let from = went.from ∙ made.from in
    let end = went.end ∙ made.end in
    let table = ap g.T.HasSortedTable.table went.table ∙ made.table in
    let low : c.args.from ≤ c.args.from = omega arith in
    (λ i. drop (c.in_ok-go_to.ensures.at i - from i) (part (from i) (end i) (records (table i)))) ∙ left_part c.args.from c.args.from c.args.end (records (g.T.HasSortedTable.table c.args.table)) low
