use Rattle.std.proofs.Common.{rules, subst}
use Rattle.std.specs.List.Sorted.{IsPermutation}
use Rattle.std.proofs.lemmas.List.Sorted.{answers_always}
use Rattle.tab_export.specs.Places.{written_before}
use Rattle.tab_export.proofs.Ordered.{written_order}
use Rattle.tab_export.proofs.order.server_records.Goals as goal

pub returns-clause-all : goal.returns-clause-all
returns-clause-all c = subst (λ xs. IsPermutation xs c.sort_unstable_by.new.self.items) c.in_ok-order.ensures c.sort_unstable_by.ensures.permutation

pub returns-clause-rises : goal.returns-clause-rises
returns-clause-rises c = c.sort_unstable_by.ensures.sorted written_before written_order (answers_always _ _ _ (λ f a r g h. search rules))
