use Rattle.std.proofs.Common.{rules, ◌++◌, length}
use Rattle.std.specs.List.{flat_map}
use Rattle.tab_io.specs.Writing.{HasPutPart}
use Rattle.tab_io.proofs.Putting.{puts_more, part_longer}
use Rattle.tab_wire.specs.Replies.{u32}
use Rattle.tab_wire.specs.Sending.{column_bytes}
use Rattle.tab_wire.proofs.sending.put_columns.Goals as goal

pub returns : goal.returns
returns g c = puts_more g.W.Output c.args.output.now c.put_length.new.output c.put_each.new.output (u32 (length c.args.columns.now)) (flat_map column_bytes c.args.columns.now) c.put_each.result c.in_ok-put_length.ensures c.put_each.ensures

pub returns-in_err-put_length : goal.returns-in_err-put_length
returns-in_err-put_length g c =
    let part : HasPutPart g.W.Output c.args.output.now c.put_length.new.output ((u32 (length c.args.columns.now)) ++ (flat_map column_bytes c.args.columns.now)) = part_longer {t = u32 (length c.args.columns.now)} (flat_map column_bytes c.args.columns.now) c.in_err-put_length.ensures in
    search (rules, part)
