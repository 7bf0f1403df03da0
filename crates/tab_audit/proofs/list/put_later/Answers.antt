use Rattle.std.proofs.Common.{subst, ◌∷◌}
use Rattle.tab_io.specs.Writing.{HasPut, HasPutPart}
use Rattle.tab_io.proofs.Each.{each_more, each_part}
use Rattle.tab_audit.proofs.list.put_later.Goals as goal

pub returns-in-Err : goal.returns-in-Err
returns-in-Err g c =
    each_part (λ x. 44 ∷ g.P.PutItem.text c.args.how.now x) c.args.later.now c.loop-member.member-index c.member-item.result c.loop-member-test.true c.loop-member.invariant
    (subst (λ x. HasPutPart g.W.Output c.loop-member.output c.put_after_comma.new.output (44 ∷ g.P.PutItem.text c.args.how.now x)) c.member-item.is c.in-Err.ensures)

pub loop-member-preserved : goal.loop-member-preserved
loop-member-preserved g c =
    each_more (λ x. 44 ∷ g.P.PutItem.text c.args.how.now x) c.args.later.now c.loop-member.member-index c.member-item.result c.loop-member-test.true c.loop-member.invariant
    (subst (λ x. HasPut g.W.Output c.loop-member.output c.put_after_comma.new.output (44 ∷ g.P.PutItem.text c.args.how.now x)) c.member-item.is c.in-Ok.ensures)
