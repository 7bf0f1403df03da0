use Rattle.tab_key.proofs.Bodies.{at_err}
use Rattle.tab_wire.proofs.Taking.{few_part}
use Rattle.tab_wire.proofs.frame.FrameBuffer.take.Goals as goal

pub returns-in_err-head-clause-err : goal.returns-in_err-head-clause-err
returns-in_err-head-clause-err g c = at_err _ (few_part _ _ c.in_err-head.ensures.err)
