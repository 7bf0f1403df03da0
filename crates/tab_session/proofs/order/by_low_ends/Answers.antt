use Rattle.std.proofs.Common.{rules, subst}
use Rattle.std.specs.List.Sorted.{IsPermutation}
use Rattle.std.proofs.lemmas.List.Sorted.{answers_always}
use Rattle.tab_session.specs.LowEnds.{begins_before}
use Rattle.tab_session.proofs.Begun.{begun_order}
use Rattle.tab_session.proofs.order.by_low_ends.Goals as goal

pub returns-clause-all : goal.returns-clause-all
returns-clause-all c = subst (λ xs. IsPermutation xs c.sort_unstable_by.new.self.items) c.in_ok-order.ensures c.sort_unstable_by.ensures.permutation

pub returns-clause-rises : goal.returns-clause-rises
returns-clause-rises c = c.sort_unstable_by.ensures.sorted begins_before begun_order (answers_always _ _ _ (λ f a r g h. search rules))
