use Rattle.std.proofs.Common.{refl}
use Rattle.std.specs.Prelude.{codes}
use Rattle.tab_io.proofs.Putting.{puts}
use Rattle.tab_prog.specs.Outcomes.{Loaded, NotLoaded}
use Rattle.tab_prog.proofs.filing.load.Goals as goal

pub returns-in-Ok : goal.returns-in-Ok
returns-in-Ok g c = (Loaded c.in-Ok.core, c.in-Ok.ensures, c.replace.ensures, puts g.W.Output c.args.output.now c.put.new.self (codes "ok\n") c.put.result c.put.ensures.bytes c.put.ensures.faults)

pub returns-in-Err : goal.returns-in-Err
returns-in-Err g c = (NotLoaded c.in-Err.fault, c.in-Err.ensures, refl, c.put_load_fault.ensures)
