use Rattle.std.proofs.Common.{rules}
use Rattle.tab_shell.specs.Batches.{left_of}
use Rattle.tab_shell.proofs.Batching.{read_on, read_last, read_part}
use Rattle.tab_shell.proofs.batches.put_session.Goals as goal

pub loop-fault-preserved : goal.loop-fault-preserved
loop-fault-preserved g c =
    read_on g.W.Output (left_of c.args.session.now.state) c.loop-fault.session.state c.put_batch.new.session.state c.args.output.now c.loop-fault.output c.put_batch.new.output c.put_batch.result (search rules) c.loop-fault.invariant c.put_batch.ensures

pub returns-in-Ok-false : goal.returns-in-Ok-false
returns-in-Ok-false g c =
    read_last g.W.Output (left_of c.args.session.now.state) c.loop-fault.session.state c.put_batch.new.session.state c.args.output.now c.loop-fault.output c.put_batch.new.output c.put_batch.result (search rules) c.loop-fault.invariant c.put_batch.ensures

pub returns-in-Err : goal.returns-in-Err
returns-in-Err g c =
    read_part g.W.Output (left_of c.args.session.now.state) (left_of c.loop-fault.session.state) c.args.output.now c.loop-fault.output c.put_batch.new.output c.in-Err.ensures.0 c.loop-fault.invariant c.in-Err.ensures.1 c.in-Err.ensures.2
