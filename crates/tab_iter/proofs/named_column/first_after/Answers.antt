-- Of the columns gone through the first one is kept.
use Rattle.std.proofs.Common.{arith, ◌∙◌, ap, refl}
use Rattle.tab_key.specs.KeyOf.{key_of}
use Rattle.tab_key.specs.Order.{column_cmp}
use Rattle.tab_iter.specs.NamedColumns.{start_past}
use Rattle.tab_iter.proofs.NamedColumns.{ahead_of_next, nearer_ahead, nearer_none, other_none}
use Rattle.tab_iter.proofs.named_column.first_after.Goals as goal
use Rattle.tab_iter.proofs.named_column.first_after.Goals.{then-is_nearer, else-is_nearer}

pub loop-column-init : goal.loop-column-init
loop-column-init c = record { ahead = ahead_of_next (key_of c.args.key); first = λ k lt. absurd (omega (arith, lt)) }

pub loop-column-preserved : goal.loop-column-preserved
loop-column-preserved c =
    let k = key_of c.args.key in
    elim c.if-is_nearer.branch [
      | then-is_nearer w ↦ record {
        ahead = nearer_ahead c.args.columns.now k c.loop-column.first c.if-is_nearer.first c.column-item.result c.loop-column.column-index (omega arith) c.column-item.is c.loop-column.invariant.first c.is_nearer.result c.is_nearer.ensures w.if-is_nearer.true _ refl w.first-is;
        first = nearer_none c.args.columns.now k c.loop-column.first c.if-is_nearer.first c.column-item.result c.loop-column.column-index (omega arith) c.column-item.is c.loop-column.invariant.first c.is_nearer.result c.is_nearer.ensures w.if-is_nearer.true _ refl w.first-is;
      }
      | else-is_nearer w ↦ record {
        ahead = ap (λ o. column_cmp k (start_past k.row o)) w.first-is ∙ c.loop-column.invariant.ahead;
        first = other_none c.args.columns.now k c.loop-column.first c.if-is_nearer.first c.column-item.result c.loop-column.column-index (omega arith) c.column-item.is c.loop-column.invariant.first c.is_nearer.result c.is_nearer.ensures w.if-is_nearer.false w.first-is;
      }
    ]
