use Rattle.std.proofs.Common.{None}
use Rattle.std.proofs.lemmas.Result.{IfOk-weaker}
use Rattle.tab_work.proofs.Handing.{applied}
use Rattle.tab_work.proofs.shared.apply_to.Goals as goal

pub returns-clause-hands : goal.returns-clause-hands
returns-clause-hands g c =
    IfOk-weaker c.apply_reserved.result _ _
    (λ r does. applied c.args.book.now c.apply_reserved.new.self c.args.seat.now c.apply_reserved.new.seat None _ r c.book_is_legal.ensures.legal c.book_is_legal.ensures.refines does)
    c.apply_reserved.ensures.ok
