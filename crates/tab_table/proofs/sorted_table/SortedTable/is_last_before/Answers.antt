-- The last row tells, or the record itself.
use Rattle.std.proofs.Common.{◌∙◌, ap, sym, arith}
use Rattle.std.specs.List.{slice_index_or}
use Rattle.tab_key.specs.Bytes.{bytes_cmp}
use Rattle.tab_key.specs.KeyOf.{key_of}
use Rattle.tab_table.specs.Blocks.{no_key}
use Rattle.tab_table.specs.SortedTables.{records}
use Rattle.tab_table.proofs.Ends.{row_at_last, row_less, row_greater}
use Rattle.tab_table.proofs.Laid.{length_listed}
use Rattle.tab_table.proofs.sorted_table.SortedTable.is_last_before.Goals as goal

pub cmp_key-requires : goal.cmp_key-requires
cmp_key-requires c = let packed = c.args.self.now.packed in omega (arith, c.requires, length_listed packed.bytes 0 no_key 0 packed.count)

pub returns-in-Less : goal.returns-in-Less
returns-in-Less c = λ u.
    let rs = records c.args.self.now in
    let row = row_at_last rs c.args.last u c.requires ∙ sym c.args.self.now.last ∙ sym c.as_bytes.ensures in
    row_less (slice_index_or rs c.args.last u).key (key_of c.args.key) (ap (λ r. bytes_cmp r c.args.key.row.now) row ∙ sym c.cmp.ensures ∙ c.in-Less.is)

pub returns-in-Greater : goal.returns-in-Greater
returns-in-Greater c = λ u.
    let rs = records c.args.self.now in
    let row = row_at_last rs c.args.last u c.requires ∙ sym c.args.self.now.last ∙ sym c.as_bytes.ensures in
    row_greater (slice_index_or rs c.args.last u).key (key_of c.args.key) (ap (λ r. bytes_cmp r c.args.key.row.now) row ∙ sym c.cmp.ensures ∙ c.in-Greater.is)
