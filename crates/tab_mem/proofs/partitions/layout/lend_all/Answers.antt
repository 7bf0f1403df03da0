use Rattle.std.proofs.Common.{◌∙◌, ◌++◌, ap, sym, take, append_assoc}
use Rattle.tab_iter.specs.Bags.{flat}
use Rattle.tab_mem.proofs.ByClass.{flat_next}
use Rattle.tab_mem.proofs.partitions.layout.lend_all.Goals as goal

pub loop-records-preserved : goal.loop-records-preserved
loop-records-preserved c =
    let old = c.lend_to.new.items.items in
    let higher = c.args.higher.now in
    let index = c.loop-records.records-index in
    let g = c.records-item.result in
    c.in_ok-lend_to-2.ensures
    ∙ ap (λ l. l ++ g) c.loop-records.invariant
    ∙ append_assoc old (flat (take index higher)) g
    ∙ ap (λ l. old ++ l) (sym (flat_next higher index g c.loop-records-test.true c.records-item.is))
