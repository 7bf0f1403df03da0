use Rattle.std.proofs.Common.{◌++◌, append_assoc, sym, subst, take}
use Rattle.std.proofs.lemmas.List.{take_all}
use Rattle.tab_iter.specs.Bags.{flat}
use Rattle.tab_tablet.specs.Selecting.{AreMiddles}
use Rattle.tab_tablet.proofs.Clipped.{flat_next}
use Rattle.tab_tablet.proofs.probing.add_runs.Goals as goal

pub loop-run-preserved : goal.loop-run-preserved
loop-run-preserved c = λ us m.
    let first = flat (take c.loop-run.run-index c.args.runs.now) in
    subst (λ l. AreMiddles (us ++ l) c.add_run.new.middles.items) (sym (flat_next c.args.runs.now c.loop-run.run-index c.run-item.result c.loop-run-test.true c.run-item.is))
    (subst (λ l. AreMiddles l c.add_run.new.middles.items) (append_assoc us first c.run-item.result) (c.in_ok-add_run.ensures (us ++ first) (c.loop-run.invariant us m)))

pub returns : goal.returns
returns c = λ us m.
    subst (λ l. AreMiddles (us ++ flat l) c.loop-run.middles.items) (take_all c.loop-run.run-index c.args.runs.now c.loop-run-test.false) (c.loop-run.invariant us m)
