use Rattle.std.proofs.Common.{rules, ◌++◌}
use Rattle.tab_io.specs.Writing.{HasPutPart}
use Rattle.tab_io.proofs.Putting.{puts_more, part_longer}
use Rattle.tab_wire.specs.Sending.{bound_bytes}
use Rattle.tab_wire.proofs.asking.put_bounds.Goals as goal

pub returns : goal.returns
returns g c = puts_more g.W.Output c.args.output.now c.put_bound.new.output c.put_bound-2.new.output (bound_bytes c.args.bounds.now.low) (bound_bytes c.args.bounds.now.high) c.put_bound-2.result c.in_ok-put_bound.ensures c.put_bound-2.ensures

pub returns-in_err-put_bound : goal.returns-in_err-put_bound
returns-in_err-put_bound g c =
    let part : HasPutPart g.W.Output c.args.output.now c.put_bound.new.output ((bound_bytes c.args.bounds.now.low) ++ (bound_bytes c.args.bounds.now.high)) = part_longer {t = bound_bytes c.args.bounds.now.low} (bound_bytes c.args.bounds.now.high) c.in_err-put_bound.ensures in
    search (rules, part)
