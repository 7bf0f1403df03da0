-- The timestamp of each record was read.
use Rattle.std.proofs.Common.{arith}
use Rattle.tab_iter.proofs.ListSourceLaws.{i64_timestamps_all}
use Rattle.tab_iter.proofs.list_source.read_timestamps.Goals as goal

pub returns : goal.returns
returns c = i64_timestamps_all c.args.records.now (λ k lt. c.loop-record.invariant k (omega arith))
