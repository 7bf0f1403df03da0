use Rattle.std.proofs.Common.{◌∙◌, ap, sym, subst}
use Rattle.tab_key.specs.Sorted.{sorted, IsDistinct}
use Rattle.tab_mem.specs.Lists.{IsRun}
use Rattle.tab_mem.proofs.Writing.{held_distinct, held_run, lent_both, written_sorted}
use Rattle.tab_mem.proofs.active.Active.copy.Goals as goal

pub sort_items-requires : goal.sort_items-requires
sort_items-requires c =
    let a = c.self.inside in
    let all = lent_both a.written a.kept _ _ c.in_ok-items.ensures c.in_ok-lend_to.ensures in
    subst IsDistinct (sym all) (held_distinct _ c.self.invariant)

pub invariant_of-new : goal.invariant_of-new
invariant_of-new c =
    let a = c.self.inside in
    let all = lent_both a.written a.kept _ _ c.in_ok-items.ensures c.in_ok-lend_to.ensures in
    subst IsRun (sym (c.in_ok-records.ensures ∙ c.deref.ensures.value ∙ c.sort_items.ensures ∙ ap sorted all)) (held_run _ c.self.invariant)

pub returns : goal.returns
returns c =
    let a = c.self.inside in
    let all = lent_both a.written a.kept _ _ c.in_ok-items.ensures c.in_ok-lend_to.ensures in
    c.in_ok-run.ensures.ok ∙ c.in_ok-records.ensures ∙ c.deref.ensures.value ∙ c.sort_items.ensures ∙ ap sorted all ∙ sym (written_sorted _ c.self.invariant) ∙ ap sorted c.self.view_is
