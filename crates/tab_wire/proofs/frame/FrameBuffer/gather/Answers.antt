use Rattle.std.proofs.Common.{◌++◌, inr, ◌∙◌, arith, length-append}
use Rattle.std.proofs.KnownBytes.{Consumes-kept}
use Rattle.tab_wire.specs.Taking.{CostsNoLess}
use Rattle.tab_wire.proofs.Taking.{kept_by, kept_took, took_more}
use Rattle.tab_wire.proofs.Costing.{both_cost, looked_some}
use Rattle.tab_wire.proofs.frame.FrameBuffer.gather.Goals as goal

pub returns-in-Err-clause-err : goal.returns-in-Err-clause-err
returns-in-Err-clause-err g c =
    let before = c.loop-need.invariant.0 in
    (before.0, omega (arith, before.1, c.loop-need-test.true), Consumes-kept _ _ _ before.0 before.2.consumed c.in-Err.ensures.bytes)

pub loop-need-preserved : goal.loop-need-preserved
loop-need-preserved g c =
    let before = c.loop-need.invariant.0 in
    let one = c.add_front-need.ensures.bytes in
    let start = c.args.input.now in
    let here = c.loop-need.input in
    let read = c.has_more.new.input in
    let left = c.add_front-need.new.input in
    let looked : CostsNoLess g.R.Input here read = looked_some g.R.Input here read c.in-Ok-true.field-0 c.in-Ok-true.ensures.costs c.in-Ok-true.field-0-test in
    let taken : CostsNoLess g.R.Input read left = inr (c.add_front-need.ensures.calls.1, omega (arith, c.add_front-need.ensures.taken)) in (
      (
        before.0 ++ one.0,
        omega (arith, before.1, one.1, length-append before.0 one.0, c.add_front-need.ensures.most, c.loop-need-test.true),
        took_more before.2 (kept_took (kept_by (g.R.Input.remaining here) (g.R.Input.remaining read) (g.R.Input.front read) c.in-Ok-true.field-0 c.in-Ok-true.ensures.bytes c.in-Ok-true.field-0-test) one.2),
      ),
      c.add_front-need.ensures.calls.0 ∙ c.in-Ok-true.ensures.faults ∙ c.loop-need.invariant.1,
      both_cost g.R.Input start read left (both_cost g.R.Input start here read c.loop-need.invariant.2 looked) taken,
    )
