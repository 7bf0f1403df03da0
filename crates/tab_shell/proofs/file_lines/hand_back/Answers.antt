use Rattle.std.proofs.Common.{refl}
use Rattle.tab_io.proofs.Putting.{flush_put}
use Rattle.tab_shell.proofs.file_lines.hand_back.Goals as goal

pub returns-in-Ok : goal.returns-in-Ok
returns-in-Ok g c = (refl, flush_put g.W.Output c.args.output.now c.flush.new.self c.in-Ok.ensures.bytes c.in-Ok.ensures.faults, c.in-Ok.ensures.bytes.1)
