-- While a batch is read there are no verdicts, and none is wrong.
use Rattle.std.proofs.Common.{sym, subst}
use Rattle.tab_iter.specs.Verdicts.{IsSound}
use Rattle.tab_session.proofs.snapshot_scan.SnapshotScan.read.Goals as goal

pub invariant_of-self-inside : goal.invariant_of-self-inside
invariant_of-self-inside c = (c.take-verdicts.ensures.left c.self.inside.asked.auths, tt)

pub invariant_of-self-inside-in_err-cells : goal.invariant_of-self-inside-in_err-cells
invariant_of-self-inside-in_err-cells c = (c.take-verdicts.ensures.left c.self.inside.asked.auths, tt)

pub invariant_of-self-inside-in_err-next : goal.invariant_of-self-inside-in_err-next
invariant_of-self-inside-in_err-next c = (c.take-verdicts.ensures.left c.self.inside.asked.auths, tt)
