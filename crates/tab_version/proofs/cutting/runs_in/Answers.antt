-- One clip more.
use Rattle.std.proofs.Common.{◌<◌, length, arith}
use Rattle.std.specs.Prelude.{filter}
use Rattle.tab_key.specs.Ranges.{is_in_range}
use Rattle.tab_key.specs.Records.{Record}
use Rattle.tab_version.proofs.Gathering.{one_more}
use Rattle.tab_version.proofs.cutting.runs_in.Goals as goal

pub loop-run-preserved : goal.loop-run-preserved
loop-run-preserved c =
    let lt : c.loop-run.run-index < length c.args.runs.now = omega arith in
    one_more (filter (λ (u : Record). is_in_range c.args.bounds.now u.key.row)) c.loop-run.cut.items c.push.new.self.items _ c.args.runs.now c.loop-run.run-index c.run-item.result lt c.run-item.is c.in_ok-push.ensures.items c.in_ok-part.ensures c.loop-run.invariant
