use Rattle.std.proofs.Common.{◌++◌, ◌/◌, sym, subst, arith}
use Rattle.tab_tablet.specs.Selecting.{AreMiddles}
use Rattle.tab_tablet.proofs.Middles.{one_more}
use Rattle.tab_tablet.proofs.Probed.{has_at}
use Rattle.tab_tablet.proofs.probing.add_table.Goals as goal

pub returns : goal.returns
returns c = λ us m.
    subst (AreMiddles (us ++ c.args.table.now.records)) (sym c.in_ok-push.ensures.items)
    (one_more us c.args.table.now.records c.args.middles.now.items c.in_ok-row.row m (has_at c.args.table.now.records (c.len-count.result / 2) c.in_ok-row.row (omega (arith, c.len-count.ensures.len, c.if-count-eq0.false)) (λ u. c.in_ok-row.ensures u)))
