use Rattle.std.proofs.Common.{◌++◌, ◌/◌, sym, subst, arith}
use Rattle.tab_tablet.specs.Selecting.{AreMiddles}
use Rattle.tab_tablet.proofs.Middles.{one_more}
use Rattle.tab_tablet.proofs.Probed.{has_at}
use Rattle.tab_tablet.proofs.probing.add_run.Goals as goal

pub returns : goal.returns
returns c = λ us m.
    subst (AreMiddles (us ++ c.args.run.now)) (sym c.in_ok-push.ensures.items)
    (one_more us c.args.run.now c.args.middles.now.items c.in_ok-row.row m (has_at c.args.run.now (c.len-count.result / 2) c.in_ok-row.row (omega (arith, c.len-count.ensures.len, c.if-count-eq0.false)) (λ u. c.in_ok-row.ensures u)))
