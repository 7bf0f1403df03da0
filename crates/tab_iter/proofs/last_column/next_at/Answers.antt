-- The label goes on with the zero byte.
use Rattle.std.proofs.Common.{◌≡◌}
use Rattle.tab_key.specs.KeyOf.{key_of}
use Rattle.tab_iter.specs.LastColumn.{parts_in}
use Rattle.tab_iter.specs.Lists.{latest}
use Rattle.tab_iter.proofs.LastColumn.{label_behind}
use Rattle.tab_iter.proofs.last_column.next_at.Goals as goal

pub returns : goal.returns
returns c =
    let e : key_of c.column_at.result ≡ parts_in c.args.body.now c.args.ends.now = c.column_at.ensures in
    λ i. record { row = (e i).row; family = (e i).family; qualifier = (e i).qualifier; label = label_behind c.args.body.now c.args.ends.now c.requires i; timestamp = latest }
