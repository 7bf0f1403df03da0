use Rattle.std.proofs.Common.{rules}
use Rattle.tab_policy.specs.State.{readings}
use Rattle.tab_loading.proofs.Granting.{granted_next}
use Rattle.tab_loading.proofs.users.grant_each.Goals as goal

pub loop-permission-preserved : goal.loop-permission-preserved
loop-permission-preserved c =
    granted_next c.args.user.now c.args.held c.args.permissions.now c.loop-permission.permission-index _ (readings c.args.policy.now) (readings c.loop-permission.policy) (readings c.grant_held.new.policy)
    (search rules) c.loop-permission.invariant c.in-Ok.ensures
