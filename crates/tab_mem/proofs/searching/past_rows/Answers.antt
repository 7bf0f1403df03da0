use Rattle.std.proofs.Common.{ap, ◌∙◌}
use Rattle.std.specs.Prelude.{filter}
use Rattle.tab_mem.specs.Lists.{part}
use Rattle.tab_mem.specs.Starts.{is_before}
use Rattle.tab_mem.proofs.Parts.{part_before_start}
use Rattle.tab_mem.proofs.searching.past_rows.Goals as goal

pub returns-clause-rows : goal.returns-clause-rows
unfolding is_before
returns-clause-rows g c =
    let listed = g.R.Ordered.listed c.args.records.now in
    part_before_start c.of-target.result.start listed c.requires.rising c.args.from c.args.end c.count_from.result c.requires.ends c.requires.inside c.count_from.ensures
    ∙ ap (λ s. filter (is_before s) (part c.args.from c.args.end listed)) c.of-target.ensures
