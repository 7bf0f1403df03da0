-- It passes, or one more doesn't.
use Rattle.std.proofs.Common.{rules, ◌<◌, length}
use Rattle.tab_version.proofs.TakenOut.{first_here, none_next}
use Rattle.tab_version.proofs.sought.first_of.Goals as goal

pub returns-then-passes_at-clause-first : goal.returns-then-passes_at-clause-first
returns-then-passes_at-clause-first g c =
    let here : c.loop-index.index < length c.args.several.now = search rules in
    first_here (g.S.Sought.passes c.args.sought.now) c.args.several.now c.loop-index.index c.passes_at.result here c.passes_at.ensures c.if-passes_at.true c.loop-index.invariant

pub loop-index-preserved : goal.loop-index-preserved
loop-index-preserved g c =
    let here : c.loop-index.index < length c.args.several.now = search rules in
    none_next (g.S.Sought.passes c.args.sought.now) c.args.several.now c.loop-index.index c.passes_at.result here c.passes_at.ensures c.if-passes_at.false c.loop-index.invariant
