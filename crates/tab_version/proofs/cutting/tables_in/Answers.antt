-- One clip more.
use Rattle.std.proofs.Common.{◌<◌, length, arith}
use Rattle.std.specs.Prelude.{filter}
use Rattle.tab_key.specs.Ranges.{is_in_range}
use Rattle.tab_key.specs.Records.{Record}
use Rattle.tab_version.specs.Sources.{Sorted}
use Rattle.tab_version.proofs.Gathering.{one_more}
use Rattle.tab_version.proofs.cutting.tables_in.Goals as goal

pub loop-table-preserved : goal.loop-table-preserved
loop-table-preserved c =
    let lt : c.loop-table.table-index < length c.args.tables.now = omega arith in
    one_more (λ (t : Sorted). record t { records = filter (λ (u : Record). is_in_range c.args.bounds.now u.key.row) t.records }) c.loop-table.cut.items c.push.new.self.items _ c.args.tables.now c.loop-table.table-index c.table-item.result lt c.table-item.is c.in_ok-push.ensures.items c.in_ok-part.ensures c.loop-table.invariant
