use Rattle.std.proofs.Common.{◌∙◌}
use Rattle.std.specs.List.{slice_index_or}
use Rattle.tab_table.specs.Blocks.{block_records}
use Rattle.tab_table.proofs.ByteWise.{same_by}
use Rattle.tab_table.proofs.packed.Packed.same_at.Goals as goal

pub returns : goal.returns
returns c = λ u v.
    let self = c.args.self.now in
    let other = c.args.other.now in
    c.are_same.ensures
    ∙ same_by c.same_column_at-columns.result c.rest_of-here.result c.rest_of-there.result (slice_index_or (block_records self.bytes self.count) c.args.mine u) (slice_index_or (block_records other.bytes other.count) c.args.others v) (c.rest_of-here.ensures u) (c.rest_of-there.ensures v) (c.same_column_at-columns.ensures u v)
