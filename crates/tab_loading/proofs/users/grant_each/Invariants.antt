use Rattle.std.proofs.Common.{◌≡◌, take}
use Rattle.tab_policy.specs.State.{readings}
use Rattle.tab_loading.specs.Policies.{granted}
use Rattle.tab_loading.proofs.users.grant_each.Given as goal

abbrev pub invariant-loop-permission : goal.invariant-loop-permission
invariant-loop-permission l = readings l.policy ≡ granted l.user l.held (take l.permission-index l.permissions) (readings l.initial.policy)
