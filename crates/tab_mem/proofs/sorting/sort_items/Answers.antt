use Rattle.std.proofs.Common.{rules}
use Rattle.std.specs.List.Sorted.{IsSortedBy}
use Rattle.std.proofs.lemmas.List.Sorted.{answers_always}
use Rattle.tab_key.specs.Order.{stands_before}
use Rattle.tab_key.proofs.Sorting.{before_order, sorted_permutation}
use Rattle.tab_mem.proofs.sorting.sort_items.Goals as goal

pub returns : goal.returns
returns c =
    let ys = c.sort_unstable_by.new.self.items in
    let rises : IsSortedBy stands_before ys = c.sort_unstable_by.ensures.sorted stands_before before_order (answers_always _ _ _ (λ f a r g h. search rules)) in
    sorted_permutation c.args.items.now.items ys c.requires c.sort_unstable_by.ensures.permutation rises
