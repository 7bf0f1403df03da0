use Rattle.std.proofs.Common.{sym, ◌∙◌}
use Rattle.tab_label.proofs.Slices.{goes_on_above}
use Rattle.tab_label.proofs.escapes.compare.Goals as goal

pub returns-then-at-member-2 : goal.returns-then-at-member-2
returns-then-at-member-2 c = sym (c.loop-i.invariant.0 ∙ goes_on_above c.args.member.now c.args.quoted.now c.loop-i.at c.loop-i.i c.if-at-member-2.true c.loop-i-test.false c.loop-i.escaping)
