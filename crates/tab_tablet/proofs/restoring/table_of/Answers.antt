use Rattle.std.proofs.Common.{◌∙◌, [], ◌∷◌, ◌++◌, sym}
use Rattle.tab_tablet.proofs.Tabled.{tabled_none, tabled_some}
use Rattle.tab_tablet.proofs.restoring.table_of.Goals as goal

pub returns-then-is_empty : goal.returns-then-is_empty
returns-then-is_empty c = tabled_none c.args.records.now _ (sym c.is_empty.ensures ∙ c.if-is_empty.true) c.new-sources.ensures

pub returns : goal.returns
returns c =
    tabled_some c.args.records.now _ (sym c.is_empty.ensures ∙ c.if-is_empty.false)
    (c.in_ok-add_table.ensures.ok ∙ (λ i. record { runs = (c.new-sources.ensures i).runs; tables = (c.new-sources.ensures i).tables ++ c.in_ok-table.ensures i ∷ [] }))
