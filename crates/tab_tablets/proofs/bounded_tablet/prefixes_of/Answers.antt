use Rattle.std.proofs.Common.{subst}
use Rattle.tab_key.specs.RowPrefix.{IsRowPrefix}
use Rattle.tab_tablets.proofs.EndPrefixes.{prefixes_next}
use Rattle.tab_tablets.proofs.bounded_tablet.prefixes_of.Goals as goal

pub loop-tablet-preserved : goal.loop-tablet-preserved
loop-tablet-preserved c =
    prefixes_next c.args.lower.now c.loop-tablet.tablet-index c.tablet-item.result c.end.result.now c.row_prefix.result c.loop-tablet.prefixes.items c.push.new.self.items
    c.loop-tablet-test.true c.tablet-item.is c.end.ensures (subst (IsRowPrefix c.row_prefix.result) c.as_bytes.ensures c.row_prefix.ensures) c.in_ok-push.ensures.items c.loop-tablet.invariant
