use Rattle.std.proofs.Common.{◌++◌, append_assoc, sym, subst, take}
use Rattle.std.proofs.lemmas.List.{take_all}
use Rattle.tab_tablet.specs.Selecting.{AreMiddles}
use Rattle.tab_tablet.proofs.Clipped.{held_in, held_next}
use Rattle.tab_tablet.proofs.probing.add_tables.Goals as goal

pub loop-table-preserved : goal.loop-table-preserved
loop-table-preserved c = λ us m.
    let first = held_in (take c.loop-table.table-index c.args.tables.now) in
    subst (λ l. AreMiddles (us ++ l) c.add_table.new.middles.items) (sym (held_next c.args.tables.now c.loop-table.table-index c.table-item.result c.loop-table-test.true c.table-item.is))
    (subst (λ l. AreMiddles l c.add_table.new.middles.items) (append_assoc us first c.table-item.result.records) (c.in_ok-add_table.ensures (us ++ first) (c.loop-table.invariant us m)))

pub returns : goal.returns
returns c = λ us m.
    subst (λ l. AreMiddles (us ++ held_in l) c.loop-table.middles.items) (take_all c.loop-table.table-index c.args.tables.now c.loop-table-test.false) (c.loop-table.invariant us m)
