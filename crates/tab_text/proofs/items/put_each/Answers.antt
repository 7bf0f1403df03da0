use Rattle.std.proofs.Common.{subst}
use Rattle.tab_io.specs.Writing.{HasPut, HasPutPart}
use Rattle.tab_io.proofs.Each.{each_more, each_part}
use Rattle.tab_text.proofs.items.put_each.Goals as goal

pub returns-in-Err : goal.returns-in-Err
returns-in-Err g c =
    each_part (g.P.PutItem.text c.args.how.now) c.args.items.now c.loop-item.item-index c.item-item.result c.loop-item-test.true c.loop-item.invariant
    (subst (λ x. HasPutPart g.W.Output c.loop-item.output c.put_item.new.output (g.P.PutItem.text c.args.how.now x)) c.item-item.is c.in-Err.ensures)

pub loop-item-preserved : goal.loop-item-preserved
loop-item-preserved g c =
    each_more (g.P.PutItem.text c.args.how.now) c.args.items.now c.loop-item.item-index c.item-item.result c.loop-item-test.true c.loop-item.invariant
    (subst (λ x. HasPut g.W.Output c.loop-item.output c.put_item.new.output (g.P.PutItem.text c.args.how.now x)) c.item-item.is c.in-Ok.ensures)
