use Rattle.tab_key.specs.Ranges.{is_in_range}
use Rattle.tab_tablet.proofs.Clipped.{tables_more}
use Rattle.tab_tablet.proofs.clipping.tables_in.Goals as goal

pub loop-table-preserved : goal.loop-table-preserved
loop-table-preserved c =
    tables_more (λ u. is_in_range c.args.bounds.now u.key.row) c.args.tables.now c.loop-table.clips.items c.add_table.new.clips.items c.loop-table.table-index c.table-item.result c.in_ok-in_rows.field-0
    c.loop-table-test.true c.table-item.is c.in_ok-in_rows.ensures c.loop-table.invariant c.in_ok-add_table.ensures
