use Rattle.std.proofs.Common.{rules, ◌++◌, length}
use Rattle.std.specs.Prelude.{map}
use Rattle.tab_io.specs.Writing.{HasPutPart}
use Rattle.tab_io.proofs.Putting.{puts_more, part_longer}
use Rattle.tab_wire.specs.Replies.{u32}
use Rattle.tab_wire.specs.Values.{value_bytes, joined}
use Rattle.tab_wire.proofs.value.put_frame.Goals as goal

pub returns : goal.returns
returns g c = puts_more g.W.Output c.args.output.now c.put_total.new.output c.put_values.new.output (u32 (length (joined (map value_bytes c.args.values.now)))) (joined (map value_bytes c.args.values.now)) c.put_values.result c.in_ok-put_total.ensures c.put_values.ensures

pub returns-in_err-put_total : goal.returns-in_err-put_total
returns-in_err-put_total g c =
    let part : HasPutPart g.W.Output c.args.output.now c.put_total.new.output ((u32 (length (joined (map value_bytes c.args.values.now)))) ++ (joined (map value_bytes c.args.values.now))) = part_longer {t = u32 (length (joined (map value_bytes c.args.values.now)))} (joined (map value_bytes c.args.values.now)) c.in_err-put_total.ensures in
    search (rules, part)
