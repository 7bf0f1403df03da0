use Rattle.std.proofs.Common.{◌∙◌}
use Rattle.tab_mem.proofs.Parted.{rest_taken}
use Rattle.tab_mem.proofs.partitions.draining.drain.Goals as goal

pub returns-clause-kept : goal.returns-clause-kept
returns-clause-kept c =
    let taken = c.take_rest.ensures in
    rest_taken c.take_rest.result c.take_parts.new.records c.take_rest.new.records c.take_parts.new.written c.take_rest.new.written taken.ok taken.empty taken.err taken.left ∙ c.take_parts.ensures.kept
