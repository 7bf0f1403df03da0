use Rattle.std.proofs.Common.{List, subst}
use Rattle.tab_key.specs.Records.{Cell}
use Rattle.tab_shell.specs.Batches.{PutsTaken}
use Rattle.tab_shell.proofs.Batching.{puts_batch, puts_lack}
use Rattle.tab_shell.proofs.batches.put_batch.Goals as goal

pub returns-in-Ok : goal.returns-in-Ok
returns-in-Ok g c =
    puts_batch g.W.Output c.args.session.now.state c.next_batch.new.self.state c.args.output.now c.put_taken.new.output c.put_taken.result c.in-Ok.ensures.after
    (subst (λ (cells : List Cell). PutsTaken g.W.Output c.args.output.now c.put_taken.new.output cells c.put_taken.result) c.in-Ok.ensures.ok c.put_taken.ensures)

pub returns-in-Err : goal.returns-in-Err
returns-in-Err g c = puts_lack g.W.Output c.args.session.now.state c.next_batch.new.self.state c.args.output.now c.put_lack.new.output c.put_lack.result c.put_lack.ensures
