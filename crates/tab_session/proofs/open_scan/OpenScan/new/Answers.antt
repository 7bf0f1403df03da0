use Rattle.tab_session.proofs.Batches.{begins_at}
use Rattle.tab_session.proofs.open_scan.OpenScan.new.Goals as goal

pub returns : goal.returns
returns c = begins_at c.first-next.result c.args.version c.args.versions c.args.columns c.args.auths c.new.result c.first-next.ensures c.new.ensures
