use Rattle.std.proofs.Common.{refl, ◌∙◌}
use Rattle.tab_history.specs.declared.event.Act.TheVariants as act
use Rattle.tab_core.proofs.Acting.{lacked}
use Rattle.tab_core.proofs.Opening.{rights_told}
use Rattle.tab_core.proofs.acts.rights.Goals as goal

pub returns-in-Ok : goal.returns-in-Ok
returns-in-Ok c = λ h now user t core is.
    rights_told h now user t c.args.caller.system c.args.caller.on_table c.in-Ok.authorizations core is.system is.on_table (c.in-Ok.ensures.cases ∙ is.authorizations)

pub returns-in-Err : goal.returns-in-Err
returns-in-Err c = λ h now user t core is. lacked _ h now user (act.Rights t) refl core
