use Rattle.std.proofs.Common.{◌<◌, ◌-◌, ◌∙◌, length, length-drop, drop, subst, rules, arith}
use Rattle.tab_io.specs.Writing.{HasPut, HasPutPart}
use Rattle.tab_io.proofs.Each.{each_more, each_part}
use Rattle.tab_audit.specs.Lists.{later_update}
use Rattle.tab_audit.proofs.Writing.{later_at}
use Rattle.tab_audit.proofs.updates.put_later.Goals as goal

pub returns-in-Err : goal.returns-in-Err
returns-in-Err g c =
    let us = c.args.mutation.now.updates in
    let below : c.loop-index.index < length us - 1 = search rules in
    let inside : c.loop-index.index < length (drop 1 us) = omega (arith, below, length-drop 1 us) in
    each_part later_update (drop 1 us) c.loop-index.index c.update.result inside c.loop-index.invariant
    (subst (λ x. HasPutPart g.W.Output c.loop-index.output c.put_after_mark.new.output (later_update x)) (c.update.ensures ∙ later_at us c.loop-index.index c.update.result c.requires) c.in-Err.ensures)

pub loop-index-preserved : goal.loop-index-preserved
loop-index-preserved g c =
    let us = c.args.mutation.now.updates in
    let below : c.loop-index.index < length us - 1 = search rules in
    let inside : c.loop-index.index < length (drop 1 us) = omega (arith, below, length-drop 1 us) in
    each_more later_update (drop 1 us) c.loop-index.index c.update.result inside c.loop-index.invariant
    (subst (λ x. HasPut g.W.Output c.loop-index.output c.put_after_mark.new.output (later_update x)) (c.update.ensures ∙ later_at us c.loop-index.index c.update.result c.requires) c.in-Ok.ensures)
