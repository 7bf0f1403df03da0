use Rattle.std.proofs.Common.{◌≡◌, ◌∙◌, ◌++◌, ap, sym, subst, get_or}
use Rattle.tab_export.specs.Places.{table_places}
use Rattle.tab_export.proofs.Ordered.{one_more}
use Rattle.tab_export.proofs.order.gathered.Goals as goal

pub loop-table-preserved : goal.loop-table-preserved
loop-table-preserved c =
    let tables = c.args.tables.now in
    let index = c.loop-table.table-index in
    let d = c.table-item.result in
    subst (λ t. c.add_table.new.order.items ≡ c.loop-table.order.items ++ table_places t) c.table-item.is c.in-Ok.ensures
    ∙ ap (λ l. l ++ table_places (get_or tables index d)) c.loop-table.invariant
    ∙ sym (one_more table_places tables index d c.loop-table-test.true)
