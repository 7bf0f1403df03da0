-- One input more is served.
use Rattle.std.proofs.Common.{◌<◌, length, refl, arith}
use Rattle.tab_version.specs.Sources.{same_contents, without, without_runs}
use Rattle.tab_version.proofs.TakenOut.{taken, input_served}
use Rattle.tab_version.proofs.taking.take_runs.Goals as goal

pub loop-input-preserved : goal.loop-input-preserved
loop-input-preserved c =
    let x = c.input-item.result in
    let left = c.loop-input.runs.items in
    let lt : c.loop-input.input-index < length c.args.inputs.now = omega arith in
    input_served (λ y. without (same_contents y)) without_runs (λ y ys zs. refl) c.args.inputs.now c.args.runs.now.items left c.take_first.new.several.items c.loop-input.input-index x c.take_first.result lt c.input-item.is
    (taken (without (same_contents x) left) c.take_first.result c.take_first.new.several.items left c.take_first.ensures.found c.take_first.ensures.left)
    c.if-not-take_first.false c.loop-input.invariant
