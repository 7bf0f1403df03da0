-- One pair more.
use Rattle.std.proofs.Common.{rules, ◌<◌, length, sym}
use Rattle.tab_version.proofs.TakenOut.{pairs_break, pairs_on}
use Rattle.tab_version.proofs.sought.pair_up.Goals as goal

pub returns-then-not-pair_at : goal.returns-then-not-pair_at
returns-then-not-pair_at g c =
    let here : c.loop-index.index < length c.args.several.now = search rules in
    let there : c.loop-index.index < length c.args.others.now = search rules in
    sym (pairs_break g.T.Sought.passes c.args.several.now c.args.others.now c.loop-index.index c.pair_at.result here there c.pair_at.ensures c.if-not-pair_at.true c.loop-index.invariant)

pub loop-index-preserved : goal.loop-index-preserved
loop-index-preserved g c =
    let here : c.loop-index.index < length c.args.several.now = search rules in
    let there : c.loop-index.index < length c.args.others.now = search rules in
    pairs_on g.T.Sought.passes c.args.several.now c.args.others.now c.loop-index.index c.pair_at.result here there c.pair_at.ensures c.if-not-pair_at.false c.loop-index.invariant
