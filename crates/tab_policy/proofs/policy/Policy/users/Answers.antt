use Rattle.tab_policy.proofs.HolderLemmas.{users_are}
use Rattle.tab_policy.proofs.policy.Policy.users.Goals as goal

pub returns : goal.returns
returns c = rw (c.from_vec.ensures, c.in_ok-names.ensures.names, ← c.self.view_is) (users_are _ c.names_of.ensures.rising)
