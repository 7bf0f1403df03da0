use Rattle.std.proofs.Common.{Ok, Err, refl, subst}
use Rattle.tab_core.specs.Stores.{CoreContents}
use Rattle.std.specs.Prelude.{codes}
use Rattle.tab_io.proofs.Putting.{puts}
use Rattle.tab_prog.specs.Outcomes.{Saved, NotSaved}
use Rattle.tab_prog.proofs.filing.save.Goals as goal

pub returns-in-Ok : goal.returns-in-Ok
returns-in-Ok g c = (Saved, subst (λ (core : CoreContents). g.F.Files.saves c.args.files.now c.args.name.now core (Ok tt) c.save.new.self) c.core.ensures c.in-Ok.ensures, refl, puts g.W.Output c.args.output.now c.put.new.self (codes "ok\n") c.put.result c.put.ensures.bytes c.put.ensures.faults)

pub returns-in-Err : goal.returns-in-Err
returns-in-Err g c = (NotSaved c.in-Err.fault, subst (λ (core : CoreContents). g.F.Files.saves c.args.files.now c.args.name.now core (Err c.in-Err.fault) c.save.new.self) c.core.ensures c.in-Err.ensures, refl, c.put_save_fault.ensures)
