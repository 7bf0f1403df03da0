use Rattle.std.proofs.Common.{subst, sym}
use Rattle.tab_key.specs.Records.{Record}
use Rattle.tab_key.specs.RowPrefix.{IsRowPrefix}
use Rattle.tab_mem.proofs.sorting.column_item.ColumnItem.with_row.Goals as goal

pub with_prefix-requires : goal.with_prefix-requires
with_prefix-requires c = record {
  at = c.self.invariant.at;
  ends = c.self.invariant.ends;
  row = subst (λ (r : Record). IsRowPrefix c.args.prefix r.key.row) (sym c.self.view_is) c.requires;
  timestamp = c.self.invariant.timestamp;
}
