use Rattle.std.proofs.Common.{◌∙◌}
use Rattle.std.specs.List.{slice_index_or}
use Rattle.tab_table.specs.Blocks.{block_records}
use Rattle.tab_table.proofs.ByteWise.{columns_are}
use Rattle.tab_table.proofs.packed.Packed.same_column_at.Goals as goal

pub returns : goal.returns
returns c = λ u v.
    let self = c.args.self.now in
    let other = c.args.other.now in
    c.all_four.ensures
    ∙ columns_are c.same_part-rows.result c.same_part-families.result c.same_part-qualifiers.result c.same_part-labels.result (slice_index_or (block_records self.bytes self.count) c.args.mine u).key (slice_index_or (block_records other.bytes other.count) c.args.others v).key (c.same_part-rows.ensures u v) (c.same_part-families.ensures u v) (c.same_part-qualifiers.ensures u v) (c.same_part-labels.ensures u v)
