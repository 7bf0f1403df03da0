-- The first column so far.
use Rattle.std.proofs.Common.{◌≡◌, ℕ, ◌<◌, false}
use Rattle.std.specs.Prelude.{slice_index_or}
use Rattle.std.specs.Ordering.{is_lt}
use Rattle.std.specs.declared.cmp.Ordering.TheVariants.{Less}
use Rattle.tab_key.specs.KeyOf.{key_of}
use Rattle.tab_key.specs.Order.{column_cmp}
use Rattle.tab_key.specs.declared.column.Column.{Column}
use Rattle.tab_iter.specs.NamedColumns.{start_in, start_past}
use Rattle.tab_iter.proofs.named_column.first_after.Given as goal

abbrev pub invariant-loop-column : goal.invariant-loop-column
invariant-loop-column l = record {
  ahead : column_cmp (key_of l.key) (start_past l.key.row.now l.first) ≡ Less;
  first : (k : ℕ) → k < l.column-index → (t : Column) → slice_index_or l.columns k t ≡ t → column_cmp (key_of l.key) (start_in l.key.row.now t) ≡ Less → is_lt (column_cmp (start_in l.key.row.now t) (start_past l.key.row.now l.first)) ≡ false;
}
