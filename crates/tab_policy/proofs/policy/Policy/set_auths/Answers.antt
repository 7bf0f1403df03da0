use Rattle.std.proofs.Common.{refl}
use Rattle.tab_policy.specs.Accounts.{with_auths}
use Rattle.tab_policy.specs.Lives.{name_among}
use Rattle.tab_policy.proofs.LivesLemmas.{account_changed}
use Rattle.tab_policy.proofs.Changes.{auths_changed}
use Rattle.tab_policy.proofs.policy.Policy.set_auths.Goals as goal

pub invariant_of-self : goal.invariant_of-self
invariant_of-self c =
    account_changed c.self.inside.users.entries c.set_auths.new.users.entries (name_among c.self.inside.lives.living.entries) c.self.inside.tables.entries c.self.inside.lives.next
    c.args.user.now (with_auths c.args.auths) (λ a. refl) c.set_auths.ensures.names c.self.invariant

pub returns : goal.returns
returns c = rw (← c.self.view_is)
    (auths_changed c.self.inside.users.entries c.set_auths.new.users.entries c.self.inside.tables.entries c.args.user.now c.args.auths c.set_auths.ensures.names c.set_auths.ensures.count)
