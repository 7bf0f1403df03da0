use Rattle.std.proofs.Common.{rules, ◌++◌}
use Rattle.std.specs.Prelude.{false}
use Rattle.std.specs.List.{flat_map}
use Rattle.tab_io.specs.Writing.{HasPutPart}
use Rattle.tab_io.proofs.Putting.{puts_more, part_longer}
use Rattle.tab_wire.specs.Replies.{end_frame, range_frames}
use Rattle.tab_wire.proofs.reply.put_ranges.Goals as goal

pub returns : goal.returns
returns g c = puts_more g.W.Output c.args.output.now c.put_each.new.output c.put_end.new.output (flat_map range_frames c.args.ranges.now) (end_frame false) c.put_end.result c.in_ok-put_each.ensures c.put_end.ensures

pub returns-in_err-put_each : goal.returns-in_err-put_each
returns-in_err-put_each g c =
    let part : HasPutPart g.W.Output c.args.output.now c.put_each.new.output ((flat_map range_frames c.args.ranges.now) ++ (end_frame false)) = part_longer {t = flat_map range_frames c.args.ranges.now} (end_frame false) c.in_err-put_each.ensures in
    search (rules, part)
