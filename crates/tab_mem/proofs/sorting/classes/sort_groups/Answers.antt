use Rattle.std.proofs.Common.{rules}
use Rattle.std.proofs.lemmas.List.Sorted.{answers_always}
use Rattle.tab_mem.specs.Groups.{row_before}
use Rattle.tab_mem.proofs.ByClass.{row_order}
use Rattle.tab_mem.proofs.sorting.classes.sort_groups.Goals as goal

pub returns-clause-rising : goal.returns-clause-rising
returns-clause-rising c = c.sort_unstable_by.ensures.sorted row_before row_order (answers_always _ _ _ (λ f a r g h. search rules))
