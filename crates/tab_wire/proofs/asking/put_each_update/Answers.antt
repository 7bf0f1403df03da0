use Rattle.std.proofs.Common.{◌<◌, length, subst, rules}
use Rattle.tab_io.specs.Writing.{HasPut, HasPutPart}
use Rattle.tab_io.proofs.Each.{each_more, each_part}
use Rattle.tab_wire.specs.Sending.{update_bytes}
use Rattle.tab_wire.proofs.asking.put_each_update.Goals as goal

pub returns-in-Err : goal.returns-in-Err
returns-in-Err g c =
    let inside : c.loop-index.index < length c.args.mutation.now.updates = search rules in
    each_part update_bytes c.args.mutation.now.updates c.loop-index.index c.update.result inside c.loop-index.invariant
    (subst (λ x. HasPutPart g.W.Output c.loop-index.output c.put_update.new.output (update_bytes x)) c.update.ensures c.in-Err.ensures)

pub loop-index-preserved : goal.loop-index-preserved
loop-index-preserved g c =
    let inside : c.loop-index.index < length c.args.mutation.now.updates = search rules in
    each_more update_bytes c.args.mutation.now.updates c.loop-index.index c.update.result inside c.loop-index.invariant
    (subst (λ x. HasPut g.W.Output c.loop-index.output c.put_update.new.output (update_bytes x)) c.update.ensures c.in-Ok.ensures)
