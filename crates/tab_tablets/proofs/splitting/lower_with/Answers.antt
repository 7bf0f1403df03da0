use Rattle.std.proofs.Common.{◌≡◌, Some, IfOk, ap, subst}
use Rattle.tab_tablets.specs.Places.{ended}
use Rattle.tab_tablets.proofs.splitting.lower_with.Goals as goal

pub returns : goal.returns
returns c = subst (λ t. IfOk c.new.result (λ l. l ≡ t)) (ap (ended (Some c.args.end)) c.in_ok-tablet.ensures) c.new.ensures
