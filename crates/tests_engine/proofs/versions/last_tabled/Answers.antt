use Rattle.tests_engine.proofs.Tabled.{same_records}
use Rattle.tests_engine.proofs.versions.last_tabled.Goals as goal

pub returns : goal.returns
returns c = same_records c.of.result c.args.clips.items c.pop-last.new.self.items _ c.in_ok-tables.tables.items c.of.ensures c.in_ok-tables.ensures c.pop-last.ensures.items
