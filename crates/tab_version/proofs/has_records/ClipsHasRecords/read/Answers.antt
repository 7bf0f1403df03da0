-- Of the runs and of the tables.
use Rattle.std.proofs.Common.{◌≡◌, true}
use Rattle.std.specs.Prelude.{int_le}
use Rattle.tab_key.specs.Records.{Record}
use Rattle.tab_iter.specs.Lists.{latest}
use Rattle.tab_key.specs.Encoding.{IsShort}
use Rattle.tab_version.proofs.HeldLaws.{each_of}
use Rattle.tab_version.proofs.has_records.ClipsHasRecords.read.Goals as goal

pub returns-clause-timestamps : goal.returns-clause-timestamps
returns-clause-timestamps c = each_of (λ (u : Record). int_le u.key.timestamp latest ≡ true) c.args.self.now c.runs.result.now c.tables.result.now c.runs.ensures c.tables.ensures c.read_all.ensures.timestamps c.read_all-2.ensures.timestamps

pub returns-clause-short : goal.returns-clause-short
returns-clause-short c = each_of IsShort c.args.self.now c.runs.result.now c.tables.result.now c.runs.ensures c.tables.ensures c.read_all.ensures.short c.read_all-2.ensures.short
