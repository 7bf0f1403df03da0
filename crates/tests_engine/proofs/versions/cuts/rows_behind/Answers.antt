use Rattle.tests_engine.proofs.Cuts.{from_end}
use Rattle.tests_engine.proofs.versions.cuts.rows_behind.Goals as goal

pub returns : goal.returns
returns c = from_end c.args.row.now _ c.args.clips.now _ c.in_ok-end.ensures c.in_ok-part.ensures
