use Rattle.std.proofs.Common.{rules, ◌≤◌, ◌-◌, ◌∙◌, length, drop, arith}
use Rattle.std.proofs.lemmas.List.{length-drop}
use Rattle.tab_key.specs.Order.{record_cmp}
use Rattle.tab_image.proofs.Rising.{short_rises}
use Rattle.tab_image.proofs.sanity.records_rise.Goals as goal

pub returns : goal.returns
returns c =
    let rs = c.args.records.now in
    let before = c.loop-index.index - 1 in
    let over : length rs ≤ c.loop-index.index = search rules in
    short_rises record_cmp (drop before rs) (omega (arith, over, c.loop-index.invariant.some, length-drop before rs)) ∙ c.loop-index.invariant.behind
