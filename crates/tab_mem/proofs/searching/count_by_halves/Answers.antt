use Rattle.std.proofs.Common.{◌≡◌, true, false, arith, ◌∙◌, sym, ◌+◌, ◌-◌, ◌/◌}
use Rattle.std.specs.List.{slice_index_or}
use Rattle.tab_mem.specs.Starts.{is_before}
use Rattle.tab_mem.proofs.Seeking.{blank, before_earlier, before_later}
use Rattle.tab_mem.proofs.searching.count_by_halves.Goals as goal

pub loop-low-preserved-then-precedes : goal.loop-low-preserved-then-precedes
loop-low-preserved-then-precedes g c =
    let mid = c.loop-low.low + (c.loop-low.high - c.loop-low.low) / 2 in
    let here : is_before c.args.target.now.start (slice_index_or (g.R.Ordered.listed c.args.records.now) mid blank) ≡ true = sym (c.precedes.ensures blank) ∙ cc in
    let more = before_earlier c.args.target.now.start (g.R.Ordered.listed c.args.records.now) c.requires.rising mid blank (omega arith) here in
    record { low_in = omega (arith, more); high_in = c.loop-low.invariant.high_in; start = omega arith; end = c.loop-low.invariant.end }

pub loop-low-preserved : goal.loop-low-preserved
loop-low-preserved g c =
    let mid = c.loop-low.low + (c.loop-low.high - c.loop-low.low) / 2 in
    let here : is_before c.args.target.now.start (slice_index_or (g.R.Ordered.listed c.args.records.now) mid blank) ≡ false = sym (c.precedes.ensures blank) ∙ cc in
    let more = before_later c.args.target.now.start (g.R.Ordered.listed c.args.records.now) mid blank here (omega arith) in
    record { low_in = c.loop-low.invariant.low_in; high_in = omega (arith, more); start = c.loop-low.invariant.start; end = omega arith }
