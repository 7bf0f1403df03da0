use Rattle.std.proofs.Common.{rules, ◌++◌}
use Rattle.tab_io.specs.Writing.{HasPutPart}
use Rattle.tab_io.proofs.Putting.{puts_more, part_longer}
use Rattle.tab_wire.specs.Replies.{u32}
use Rattle.tab_wire.specs.Sending.{bounds_bytes, counted}
use Rattle.tab_wire.proofs.sending.put_slot_and_ranges.Goals as goal

pub returns : goal.returns
returns g c = puts_more g.W.Output c.args.output.now c.put_number.new.output c.put_ranges.new.output (u32 c.args.slot) (counted bounds_bytes c.args.ranges.now) c.put_ranges.result c.in_ok-put_number.ensures c.put_ranges.ensures

pub returns-in_err-put_number : goal.returns-in_err-put_number
returns-in_err-put_number g c =
    let part : HasPutPart g.W.Output c.args.output.now c.put_number.new.output ((u32 c.args.slot) ++ (counted bounds_bytes c.args.ranges.now)) = part_longer {t = u32 c.args.slot} (counted bounds_bytes c.args.ranges.now) c.in_err-put_number.ensures in
    search (rules, part)
