use Rattle.std.proofs.Common.{◌≤◌, ◌∙◌, length, sym, ap, rules}
use Rattle.std.specs.List.{list_all}
use Rattle.std.proofs.lemmas.List.{drop_all}
use Rattle.tab_image.specs.Conditions.{is_accepted}
use Rattle.tab_image.proofs.SaneLemmas.{short_accepted}
use Rattle.tab_image.proofs.sanity.is_each_sane.Goals as goal

pub returns : goal.returns
returns c =
    let rs = c.args.records.now in
    let over : length rs ≤ c.loop-index.index = search rules in
    sym (ap (list_all (is_accepted c.args.next)) (drop_all c.loop-index.index rs over))
    ∙ c.loop-index.invariant
    ∙ short_accepted c.args.next rs c.len-index-end.ensures.short
