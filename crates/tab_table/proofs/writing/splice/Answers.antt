-- The others come behind the first ones.
use Rattle.std.proofs.Common.{◌+◌}
use Rattle.std.specs.List.{slice_range}
use Rattle.tab_table.proofs.Spliced.{chained}
use Rattle.tab_table.proofs.writing.splice.Goals as goal

pub returns-clause-bytes : goal.returns-clause-bytes
returns-clause-bytes c = chained c.args.out.now c.repeat_span-middle.new.out c.write_span.new.out (slice_range c.args.out.now c.args.from (c.args.from + c.args.count)) (slice_range c.args.others.now c.args.rest (c.args.rest + c.args.len)) c.args.place c.repeat_span-middle.result c.write_span.result c.repeat_span-middle.ensures.bytes c.write_span.ensures.bytes
