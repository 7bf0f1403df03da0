use Rattle.tab_policy.proofs.HolderLemmas.{one_entry_each}
use Rattle.tab_policy.proofs.rights.TableRights.holders.Goals as goal

pub returns-clause-apart : goal.returns-clause-apart
returns-clause-apart c =
    rw (← c.self.view_is) (one_entry_each c.self.inside.maker c.self.inside.own c.self.inside.others.entries c.self.invariant c.into_iter-life-iterator.ensures.into_iter_gives.5)
