use Rattle.std.proofs.Common.{◌≡◌, Some, IfOk, ap, subst}
use Rattle.tab_tablet.specs.Tablets.{tabled}
use Rattle.tab_tablets.proofs.Restored.{either_way}
use Rattle.tab_tablets.proofs.splitting.take_lower.Goals as goal

pub returns-clause-lower : goal.returns-clause-lower
returns-clause-lower c = subst (λ t. IfOk c.lower_with.result (λ l. l ≡ t)) (ap (tabled c.args.number (Some c.args.end)) c.in_ok-own.ensures) c.lower_with.ensures

pub returns-clause-left : goal.returns-clause-left
returns-clause-left c = either_way c.lower_with.result c.in_ok-left.ensures
