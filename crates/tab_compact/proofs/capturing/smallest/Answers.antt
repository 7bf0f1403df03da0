-- The sizes rise, and what is cut off is not taken.
use Rattle.std.proofs.Common.{sym, ◌∙◌, ap, subst}
use Rattle.std.specs.List.Sorted.{IsNonDecreasing}
use Rattle.tab_compact.specs.Merges.{sizes_of}
use Rattle.tab_compact.proofs.BySize.{by_size_rise}
use Rattle.tab_compact.proofs.capturing.smallest.Goals as goal

pub plan-requires : goal.plan-requires
plan-requires c = subst IsNonDecreasing (sym (c.deref-2.ensures.value ∙ c.in_ok-sizes.ensures ∙ ap sizes_of (c.deref.ensures.value ∙ c.in_ok-sorted.ensures))) (by_size_rise c.args.tables.now)
