use Rattle.std.proofs.Common.{None, refl}
use Rattle.tab_policy.specs.Entries.{at_name}
use Rattle.tab_policy.proofs.LivesLemmas.{no_life}
use Rattle.tab_policy.specs.State.{user_exists, user_count}
use Rattle.tab_policy.proofs.Changes.{user_renewed}
use Rattle.tab_policy.proofs.policy.Policy.drop_user.Goals as goal

pub returns : goal.returns
unfolding user_exists user_count
returns c = rw (← c.self.view_is)
    (user_renewed c.self.inside.users.entries c.take_account-life.new.users.entries c.self.inside.tables.entries c.args.user.now None _ c.take_account-life.ensures.count refl (λ p. refl)
    (λ t p. no_life (at_name t c.self.inside.tables.entries) p) c.take_account-life.ensures.names)
