use Rattle.std.proofs.Common.{◌∙◌}
use Rattle.tab_tablet.proofs.Planned.{plans_fit}
use Rattle.tab_tablet.proofs.due.has_plan.Goals as goal

pub returns : goal.returns
returns c = c.some_fit.ensures ∙ plans_fit c.args.tables.now
