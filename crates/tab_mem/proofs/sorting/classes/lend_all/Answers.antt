use Rattle.std.proofs.Common.{◌∙◌, ◌++◌, ap, sym, take, append_assoc}
use Rattle.std.proofs.lemmas.List.{take_all}
use Rattle.tab_iter.specs.Bags.{flat}
use Rattle.tab_mem.proofs.ByClass.{flat_next}
use Rattle.tab_mem.proofs.sorting.classes.lend_all.Goals as goal

pub loop-group-preserved : goal.loop-group-preserved
loop-group-preserved c =
    let old = c.args.items.now.items in
    let groups = c.args.groups.now in
    let index = c.loop-group.group-index in
    let g = c.group-item.result in
    c.in_ok-lend_to.ensures
    ∙ ap (λ l. l ++ g) c.loop-group.invariant
    ∙ append_assoc old (flat (take index groups)) g
    ∙ ap (λ l. old ++ l) (sym (flat_next groups index g c.loop-group-test.true c.group-item.is))

pub returns : goal.returns
returns c = c.loop-group.invariant ∙ ap (λ l. c.args.items.now.items ++ flat l) (take_all c.loop-group.group-index c.args.groups.now c.loop-group-test.false)
