use Rattle.std.proofs.Common.{◌<◌, length, subst, rules}
use Rattle.tab_io.specs.Writing.{HasPut, HasPutPart}
use Rattle.tab_io.proofs.Each.{each_more, each_part}
use Rattle.tab_text.proofs.cells.put_each_cell.Goals as goal

pub returns-in-Err : goal.returns-in-Err
returns-in-Err g c =
    let inside : c.loop-index.index < length c.args.cells.now = search rules in
    each_part (g.P.PutCell.text c.args.how.now) c.args.cells.now c.loop-index.index c.get.result inside c.loop-index.invariant
    (subst (λ x. HasPutPart g.W.Output c.loop-index.output c.put_cell.new.output (g.P.PutCell.text c.args.how.now x)) c.get.ensures c.in-Err.ensures)

pub loop-index-preserved : goal.loop-index-preserved
loop-index-preserved g c =
    let inside : c.loop-index.index < length c.args.cells.now = search rules in
    each_more (g.P.PutCell.text c.args.how.now) c.args.cells.now c.loop-index.index c.get.result inside c.loop-index.invariant
    (subst (λ x. HasPut g.W.Output c.loop-index.output c.put_cell.new.output (g.P.PutCell.text c.args.how.now x)) c.get.ensures c.in-Ok.ensures)
