use Rattle.std.proofs.Common.{subst}
use Rattle.tab_history.specs.Answers.{Told}
use Rattle.tab_io.specs.Writing.{Puts}
use Rattle.tab_replies.specs.Texts.{reply_text}
use Rattle.tab_shell.proofs.scans.write_told.Goals as goal

pub returns : goal.returns
returns g c = subst (λ (t : Told). Puts g.W.Output c.args.output.now c.write_reply.new.output (reply_text t) c.write_reply.result) c.told-reply.ensures c.write_reply.ensures
