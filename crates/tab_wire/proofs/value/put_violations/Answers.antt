use Rattle.std.proofs.Common.{rules, ◌++◌, length}
use Rattle.std.specs.List.{flat_map}
use Rattle.tab_io.specs.Writing.{HasPutPart}
use Rattle.tab_io.proofs.Putting.{puts_more, part_longer}
use Rattle.tab_wire.specs.Replies.{u32, violation_bytes}
use Rattle.tab_wire.proofs.value.put_violations.Goals as goal

pub returns : goal.returns
returns g c = puts_more g.W.Output c.args.output.now c.put_length.new.output c.put_each.new.output (u32 (length c.args.violations.now)) (flat_map violation_bytes c.args.violations.now) c.put_each.result c.in_ok-put_length.ensures c.put_each.ensures

pub returns-in_err-put_length : goal.returns-in_err-put_length
returns-in_err-put_length g c =
    let part : HasPutPart g.W.Output c.args.output.now c.put_length.new.output ((u32 (length c.args.violations.now)) ++ (flat_map violation_bytes c.args.violations.now)) = part_longer {t = u32 (length c.args.violations.now)} (flat_map violation_bytes c.args.violations.now) c.in_err-put_length.ensures in
    search (rules, part)
