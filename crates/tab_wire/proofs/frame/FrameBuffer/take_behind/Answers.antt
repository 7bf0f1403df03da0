use Rattle.tab_wire.proofs.Taking.{head_end, head_cut, head_length, head_on_part}
use Rattle.tab_wire.proofs.frame.FrameBuffer.take_behind.Goals as goal

pub returns-in-End-clause-bytes : goal.returns-in-End-clause-bytes
returns-in-End-clause-bytes g c all h = head_end all (g.R.Input.remaining c.args.input.now) _ c.args.head h c.in-End.is

pub returns-in-Cut-clause-bytes : goal.returns-in-Cut-clause-bytes
returns-in-Cut-clause-bytes g c all h = head_cut all (g.R.Input.remaining c.args.input.now) _ _ c.args.head h c.in-Cut.is

pub returns-in-Length-clause-bytes : goal.returns-in-Length-clause-bytes
returns-in-Length-clause-bytes g c all h = head_length all (g.R.Input.remaining c.args.input.now) _ _ c.args.head c.in-Length.count c.take_body.result h c.in-Length.is c.take_body.ensures.bytes

pub returns-in-Length-clause-err : goal.returns-in-Length-clause-err
returns-in-Length-clause-err g c all h = head_on_part all _ _ c.args.head c.in-Length.count c.take_body.result h c.in-Length.is c.take_body.ensures.err
