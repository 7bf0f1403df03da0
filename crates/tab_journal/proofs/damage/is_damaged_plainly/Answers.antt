use Rattle.std.proofs.Common.{rules, ◌≤◌, length, arith}
use Rattle.tab_journal.proofs.Damaging.{none_ahead, none_here, none_at_all}
use Rattle.tab_journal.proofs.damage.is_damaged_plainly.Goals as goal

pub loop-place-init : goal.loop-place-init
loop-place-init c = none_ahead c.args.seal c.args.window.now c.args.read

pub loop-place-preserved : goal.loop-place-preserved
loop-place-preserved c = λ q later.
    let next = none_here c.args.seal c.args.window.now c.args.read c.loop-place.place c.loop-place.invariant c.is_later.result c.is_later.ensures c.if-is_later.false q later in
    omega (arith, next)

pub returns : goal.returns
returns c =
    let over : length c.args.window.now ≤ c.loop-place.place = search rules in
    none_at_all c.args.seal c.args.window.now c.args.read c.loop-place.place c.loop-place.invariant over
