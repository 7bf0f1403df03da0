-- The record before the place tells on which side of it the start lies.
use Rattle.std.proofs.Common.{◌≡◌, true, false, arith, ◌∙◌, sym, ◌-◌}
use Rattle.std.specs.List.{slice_index_or}
use Rattle.tab_mem.specs.Starts.{is_before}
use Rattle.tab_mem.proofs.Seeking.{blank, before_earlier, before_later}
use Rattle.tab_mem.proofs.searching.count_near.Goals as goal

pub returns-then-not-precedes : goal.returns-then-not-precedes
returns-then-not-precedes g c =
    let here : is_before c.args.target.now.start (slice_index_or (g.R.Ordered.listed c.args.records.now) (c.args.at - 1) blank) ≡ false = sym (c.precedes.ensures blank) ∙ cc in
    let more = before_later c.args.target.now.start (g.R.Ordered.listed c.args.records.now) (c.args.at - 1) blank here (omega arith) in
    omega (arith, more)

pub returns : goal.returns
returns g c =
    let here : is_before c.args.target.now.start (slice_index_or (g.R.Ordered.listed c.args.records.now) (c.args.at - 1) blank) ≡ true = sym (c.precedes.ensures blank) ∙ cc in
    let more = before_earlier c.args.target.now.start (g.R.Ordered.listed c.args.records.now) c.requires.rising (c.args.at - 1) blank (omega arith) here in
    omega (arith, more)
