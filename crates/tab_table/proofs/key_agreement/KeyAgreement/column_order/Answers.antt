-- Part by part.
use Rattle.std.proofs.Common.{◌∙◌, ap}
use Rattle.std.specs.Ordering.{ordering_then}
use Rattle.tab_key.specs.Order.{column_cmp}
use Rattle.tab_table.proofs.key_agreement.KeyAgreement.column_order.Goals as goal

pub returns : goal.returns
unfolding column_cmp
returns c = λ k sought a.
    c.then-3.ensures
    ∙ ap (λ o. ordering_then o c.args.self.label.order) (c.then-2.ensures ∙ ap (λ o. ordering_then o c.args.self.qualifier.order) c.then.ensures)
    ∙ (λ i. ordering_then (ordering_then (ordering_then (a.rows.compares i) (a.families.compares i)) (a.qualifiers.compares i)) (a.labels.compares i))
