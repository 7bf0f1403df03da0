use Rattle.std.proofs.lemmas.Result.{on_ok_weaker}
use Rattle.tab_loading.proofs.PuttingUsers.{puts_user}
use Rattle.tab_loading.proofs.users.put_user.Goals as goal

pub returns : goal.returns
returns c = on_ok_weaker c.grant_each.result (puts_user c.args.user c.args.policy.now c.create_user.new.self c.set_auths.new.self c.grant_each.new.policy c.in_ok-create_user.ensures.ok c.set_auths.ensures) c.grant_each.ensures
