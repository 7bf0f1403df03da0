use Rattle.std.proofs.lemmas.List.Filters.{dedup_is}
use Rattle.tab_label.proofs.AuthLemmas.{rising_after, same_members}
use Rattle.tab_label.proofs.SetLemmas.{set_is}
use Rattle.tab_label.proofs.auths.AuthSet.new.Goals as goal

pub invariant_of-result : goal.invariant_of-result
invariant_of-result c = rw (dedup_is _ _ _ c.dedup.ensures.filtered) (rising_after _ c.sort_unstable.ensures.sorted)

pub returns-clause-members : goal.returns-clause-members
returns-clause-members c = rw (dedup_is _ _ _ c.dedup.ensures.filtered) (λ t. same_members _ _ t c.sort_unstable.ensures.permutation)

pub returns-clause-rising : goal.returns-clause-rising
returns-clause-rising c = rw (dedup_is _ _ _ c.dedup.ensures.filtered) (rising_after _ c.sort_unstable.ensures.sorted)

pub returns-clause-set : goal.returns-clause-set
returns-clause-set c = set_is _ _ (returns-clause-rising c) (returns-clause-members c)
