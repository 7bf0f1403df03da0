use Rattle.std.proofs.Common.{◌≡◌, true, false, arith, ◌∙◌, sym, ◌+◌}
use Rattle.std.specs.List.{slice_index_or}
use Rattle.tab_mem.specs.Starts.{is_before}
use Rattle.tab_mem.proofs.Seeking.{blank, before_earlier, before_later}
use Rattle.tab_mem.proofs.searching.count_from.Goals as goal

pub returns-then-not-precedes : goal.returns-then-not-precedes
returns-then-not-precedes g c =
    let at = c.loop-step.near + c.loop-step.step in
    let here : is_before c.args.target.now.start (slice_index_or (g.R.Ordered.listed c.args.records.now) at blank) ≡ false = sym (c.precedes.ensures blank) ∙ cc in
    let more = before_later c.args.target.now.start (g.R.Ordered.listed c.args.records.now) at blank here (omega arith) in
    omega (arith, more)

pub loop-step-preserved : goal.loop-step-preserved
loop-step-preserved g c =
    let at = c.loop-step.near + c.loop-step.step in
    let here : is_before c.args.target.now.start (slice_index_or (g.R.Ordered.listed c.args.records.now) at blank) ≡ true = sym (c.precedes.ensures blank) ∙ cc in
    let more = before_earlier c.args.target.now.start (g.R.Ordered.listed c.args.records.now) c.requires.rising at blank (omega arith) here in
    record { left = omega arith; right = omega arith; reach = c.loop-step.invariant.reach; passed = omega (arith, more); moves = omega arith }
