-- A record of another mark isn't of the column.
use Rattle.std.proofs.Common.{rules, ◌≢◌, sym, ◌∙◌, ap}
use Rattle.tab_iter.specs.Columns.{is_of}
use Rattle.tab_iter.specs.LastColumn.{column_in}
use Rattle.tab_iter.proofs.LastColumn.{not_of_marked}
use Rattle.tab_iter.proofs.last_column.LastColumn.is_of_marked.Goals as goal

pub returns-then-mark-self : goal.returns-then-mark-self
returns-then-mark-self c =
    let other : c.args.mark ≢ c.self.inside.mark = search rules in
    sym (not_of_marked (column_in c.self.inside.body.items c.self.inside.ends) c.self.inside.mark c.args.mark c.args.next.now.key c.self.invariant.marked c.requires other)
    ∙ ap (λ column. is_of column c.args.next.now.key) c.self.view_is
