use Rattle.std.proofs.Common.{not, subst, List}
use Rattle.tab_key.specs.Records.{Record}
use Rattle.tab_key.specs.Sorted.{IsIn}
use Rattle.tab_key.proofs.Rising.{in_filter}
use Rattle.tab_mem.specs.Parting.{row_below}
use Rattle.tab_mem.proofs.Parted.{part_taken, rest_distinct}
use Rattle.tab_mem.proofs.partitions.draining.take_part.Goals as goal

pub returns-clause-distinct : goal.returns-clause-distinct
returns-clause-distinct c = rest_distinct c.args.bound.now c.args.written.now c.keep_from.new.self c.keep_from.ensures c.requires

pub returns-clause-kept : goal.returns-clause-kept
returns-clause-kept c = part_taken c.args.bound.now c.args.records.now c.put_part.new.records c.args.written.now c.keep_from.new.self c.requires c.in_ok-put_part.ensures.ok c.keep_from.ensures

pub returns-clause-within : goal.returns-clause-within
returns-clause-within c = λ u h. (in_filter (λ v. not (row_below v c.args.bound.now)) c.args.written.now u (subst (λ (l : List Record). IsIn l u) c.keep_from.ensures h)).0
