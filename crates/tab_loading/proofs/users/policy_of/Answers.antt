use Rattle.std.proofs.Common.{◌∙◌, ap}
use Rattle.std.specs.List.{fold}
use Rattle.tab_loading.specs.Policies.{with_user}
use Rattle.tab_loading.proofs.PuttingUsers.{reads_new}
use Rattle.tab_loading.proofs.users.policy_of.Goals as goal

pub returns : goal.returns
returns c =
    let new = c.in_ok-policy.ensures in
    c.in_ok-put_users.ensures ∙ ap (λ r. fold with_user r c.args.users.items) (reads_new c.in_ok-policy.policy new.users new.count new.auths new.system new.rights new.tables)
