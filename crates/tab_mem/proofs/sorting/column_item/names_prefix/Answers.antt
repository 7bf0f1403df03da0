use Rattle.std.proofs.Common.{◌≡◌, ◌-◌, ap, subst, length}
use Rattle.tab_key.specs.RowPrefix.{IsRowPrefix}
use Rattle.tab_mem.proofs.Columned.{names_onward}
use Rattle.tab_mem.proofs.sorting.column_item.names_prefix.Goals as goal

pub returns : goal.returns
returns c =
    let k = c.args.lent.now.key in
    let column = c.column_piece-column.result in
    let size : c.len.result - length c.label-size.result.now ≡ length column - length k.label = λ i. c.len.ensures i - ap length c.label-size.ensures i in
    subst (IsRowPrefix c.prefix_between.result)
    (names_onward c.onward.result.now column (length c.row-start.result.now) (c.len.result - length c.label-size.result.now) k.row k.family k.qualifier k.label c.onward.ensures.front c.column_piece-column.ensures (ap length c.row-start.ensures) size) c.prefix_between.ensures
