-- One more.
use Rattle.std.proofs.Common.{◌≡◌, ◌<◌, true, length, arith}
use Rattle.std.specs.Prelude.{int_le}
use Rattle.tab_key.specs.Records.{Record}
use Rattle.tab_iter.specs.Lists.{latest}
use Rattle.tab_key.specs.Encoding.{IsShort}
use Rattle.tab_version.proofs.HeldLaws.{each_more}
use Rattle.tab_version.proofs.has_records.read_all.Goals as goal

pub loop-one-preserved : goal.loop-one-preserved
loop-one-preserved g c =
    let several = c.args.several.now in
    let lt : c.loop-one.one-index < length several = omega arith in
    record {
      timestamps = each_more g.H.HasRecords.held (λ (u : Record). int_le u.key.timestamp latest ≡ true) several c.loop-one.one-index c.one-item.result lt c.one-item.is c.loop-one.invariant.timestamps c.read.ensures.timestamps;
      short = each_more g.H.HasRecords.held IsShort several c.loop-one.one-index c.one-item.result lt c.one-item.is c.loop-one.invariant.short c.read.ensures.short;
    }
