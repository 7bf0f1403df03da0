use Rattle.std.proofs.Common.{ℕ, ◌<◌, subst, sym}
use Rattle.std.proofs.lemmas.List.Sorted.{length_permutation, IsNonDecreasingBy-from_sort}
use Rattle.tab_mem.proofs.partitions.numbers_of.Goals as goal

pub returns-clause-few : goal.returns-clause-few
returns-clause-few c = subst (λ (n : ℕ). n < 16) (sym (length_permutation _ _ c.sort_unstable.ensures.permutation)) c.in_ok-lows.ensures

pub returns-clause-rising : goal.returns-clause-rising
returns-clause-rising c = IsNonDecreasingBy-from_sort (λ x. x) _ c.sort_unstable.ensures.sorted
