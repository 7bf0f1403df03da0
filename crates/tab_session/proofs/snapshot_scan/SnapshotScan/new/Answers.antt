-- No verdict is wrong under any authorizations.
use Rattle.tab_session.proofs.snapshot_scan.SnapshotScan.new.Goals as goal

pub invariant_of-result : goal.invariant_of-result
invariant_of-result c = (c.none.ensures c.args.auths, tt)
