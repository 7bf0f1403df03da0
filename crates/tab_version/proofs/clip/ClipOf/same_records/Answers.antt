-- As many records, and one more that is the same.
use Rattle.std.proofs.Common.{rules, ◌<◌, ◌≤◌, length, sym, ◌∙◌, arith}
use Rattle.tab_version.specs.Sources.{same_record, same_contents}
use Rattle.tab_version.proofs.TakenOut.{pairs_differ, pairs_break, pairs_on, pairs_end}
use Rattle.tab_version.proofs.clip.ClipOf.same_records.Goals as goal

pub returns-then-len-count : goal.returns-then-len-count
unfolding same_contents
returns-then-len-count g c = sym (pairs_differ same_record c.args.self.now c.args.other.now (λ e. c.if-len-count.true (c.len.ensures.len ∙ sym e ∙ sym c.len-count.ensures.len)))

pub returns-then-not-same_at : goal.returns-then-not-same_at
unfolding same_contents
returns-then-not-same_at g c =
    let here : c.loop-index.index < length c.args.self.now = search rules in
    let there : c.loop-index.index < length c.args.other.now = omega (arith, here, c.if-len-count.false, c.len-count.ensures.len, c.len.ensures.len) in
    sym (pairs_break same_record c.args.self.now c.args.other.now c.loop-index.index c.same_at.result here there c.same_at.ensures c.if-not-same_at.true c.loop-index.invariant)

pub loop-index-preserved : goal.loop-index-preserved
loop-index-preserved g c =
    let here : c.loop-index.index < length c.args.self.now = search rules in
    let there : c.loop-index.index < length c.args.other.now = omega (arith, here, c.if-len-count.false, c.len-count.ensures.len, c.len.ensures.len) in
    pairs_on same_record c.args.self.now c.args.other.now c.loop-index.index c.same_at.result here there c.same_at.ensures c.if-not-same_at.false c.loop-index.invariant

pub returns : goal.returns
unfolding same_contents
returns g c =
    let here : length c.args.self.now ≤ c.loop-index.index = search rules in
    let there : length c.args.other.now ≤ c.loop-index.index = omega (arith, here, c.if-len-count.false, c.len-count.ensures.len, c.len.ensures.len) in
    sym (pairs_end same_record c.args.self.now c.args.other.now c.loop-index.index here there c.loop-index.invariant)
