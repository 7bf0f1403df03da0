use Rattle.std.proofs.lemmas.Result.{IfOk-weaker}
use Rattle.tab_work.proofs.Handing.{rotated}
use Rattle.tab_work.proofs.Rotated.{handed}
use Rattle.tab_work.proofs.rotating.rotate_in.Goals as goal

pub returns-clause-hands : goal.returns-clause-hands
returns-clause-hands g c =
    IfOk-weaker c.rotate_reserved.result _ _
    (λ r does. rotated c.args.book.now c.rotate_reserved.new.self c.args.seat.now c.rotate_reserved.new.seat _ _ r.0 r.1 c.book_is_legal.ensures.legal c.book_is_legal.ensures.refines does)
    c.rotate_reserved.ensures.ok

pub returns-clause-history : goal.returns-clause-history
returns-clause-history g c = IfOk-weaker c.rotate_reserved.result _ _ (λ r does. handed c.args.book.now c.args.seat.now _ _ r.0 r.1 c.rotate_reserved.new.self c.rotate_reserved.new.seat does) c.rotate_reserved.ensures.ok
