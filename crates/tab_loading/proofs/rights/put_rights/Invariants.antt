use Rattle.std.proofs.Common.{◌≡◌, take}
use Rattle.std.specs.List.{fold}
use Rattle.tab_policy.specs.State.{readings}
use Rattle.tab_loading.specs.Policies.{with_right}
use Rattle.tab_loading.proofs.rights.put_rights.Given as goal

abbrev pub invariant-loop-right : goal.invariant-loop-right
invariant-loop-right l = readings l.policy ≡ fold (with_right l.table) (readings l.initial.policy) (take l.right-index l.rights)
