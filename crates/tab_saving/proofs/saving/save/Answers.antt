use Rattle.std.proofs.Common.{◌≡◌, sym, subst, rules}
use Rattle.tab_policy.specs.Holders.{AreUsers}
use Rattle.tab_saving.proofs.Saved.{saves_image, lacks_image}
use Rattle.tab_saving.proofs.saving.save.Goals as goal

pub returns-in_err-users : goal.returns-in_err-users
returns-in_err-users g c = lacks_image g.W.Output c.args.output.now c.args.core.now c.from_residual.result c.from_residual.ensures

pub returns : goal.returns
returns g c =
    let same : c.as_slice.result.now ≡ c.in_ok-users.users = search rules in
    let listed = subst (λ s. AreUsers s c.in_ok-users.users) c.policy.ensures c.in_ok-users.ensures in
    let users = subst (AreUsers c.args.core.now.policy) (sym same) listed in
    saves_image g.W.Output c.args.output.now c.put_core.new.output c.args.core.now c.as_slice.result.now c.put_core.result users c.put_core.ensures.image c.put_core.ensures.put
