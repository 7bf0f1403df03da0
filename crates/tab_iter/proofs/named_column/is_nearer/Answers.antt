-- Any column of a row begins before the next row.
use Rattle.std.proofs.Common.{◌∙◌, ap}
use Rattle.std.specs.Ordering.{is_lt}
use Rattle.tab_key.specs.KeyOf.{key_of}
use Rattle.tab_key.specs.Order.{column_cmp}
use Rattle.tab_iter.proofs.NamedColumns.{nearer_first}
use Rattle.tab_iter.proofs.named_column.is_nearer.Goals as goal

pub returns-in-None : goal.returns-in-None
returns-in-None c = c.is_lt.ensures ∙ ap is_lt (c.column_cmp.ensures ∙ ap (column_cmp (key_of c.args.key)) c.start_in-start.ensures) ∙ nearer_first c.args.key.row.now c.args.column.now _ c.args.first c.in-None.is
