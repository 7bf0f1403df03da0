-- The tests of all rules together are the definition of what is kept.
use Rattle.std.proofs.Common.{◌≡◌, map, ◌∙◌, rules, to_z, of_z, w64}
use Rattle.tab_iter.specs.Bags.{flat}
use Rattle.tab_iter.proofs.MergeLaws.{merge_chain}
use Rattle.tab_iter.proofs.merged.merged_of.Goals as goal

pub returns-clause-whole : goal.returns-clause-whole
returns-clause-whole g c =
    let trip : to_z w64 (of_z w64 c.args.floor) ≡ c.args.floor = search rules in
    merge_chain (flat (map g.S.Source.whole c.args.sources.items)) _ _ c.args.full _ c.args.floor _ c.args.versions _ _ _ _ _
    c.in_ok-all.ensures.whole c.new-undeleted.ensures c.new-2.ensures.full (c.new-2.ensures.floor ∙ trip) c.new-needed.ensures
    c.new-3.ensures.most c.new-3.ensures.keeps c.new-rule.ensures c.in_ok-kept.ensures.whole
    c.requires.distinct

pub returns-clause-rest : goal.returns-clause-rest
returns-clause-rest g c = c.in_ok-kept.ensures.rest ∙ returns-clause-whole g c
