-- A column that is the record's already stays, and else its parts are the record's.
use Rattle.std.proofs.Common.{refl, sym, ◌∙◌}
use Rattle.tab_iter.proofs.ColumnLaws.{column_of_parts, column_of_same}
use Rattle.tab_iter.proofs.last_column.LastColumn.remember.Goals as goal

pub returns-then-is_of_marked-clause-column : goal.returns-then-is_of_marked-clause-column
returns-then-is_of_marked-clause-column c = column_of_same c.args.self.now c.args.next.now.key (sym c.is_of_marked.ensures ∙ c.if-is_of_marked.true)

pub returns-in-Ok-clause-column : goal.returns-in-Ok-clause-column
returns-in-Ok-clause-column c = column_of_parts _ _ c.args.next.now.key c.in-Ok.ensures.column refl
