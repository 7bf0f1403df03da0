use Rattle.std.proofs.Common.{rules}
use Rattle.std.specs.List.Sorted.{IsSortedBy}
use Rattle.std.proofs.lemmas.List.Sorted.{answers_always}
use Rattle.tab_mem.proofs.Columned.{stands_behind, behind_order, row_sorted}
use Rattle.tab_mem.proofs.sorting.one_row.sort_row.Goals as goal

pub returns : goal.returns
returns c =
    let ys = c.sort_unstable_by.new.self.items in
    let rises : IsSortedBy stands_behind ys = c.sort_unstable_by.ensures.sorted stands_behind behind_order (answers_always _ _ _ (λ f a r g h. search rules)) in
    row_sorted c.args.items.now.items ys c.requires.distinct c.requires.row c.sort_unstable_by.ensures.permutation rises
