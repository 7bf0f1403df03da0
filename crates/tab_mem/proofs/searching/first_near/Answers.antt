use Rattle.std.proofs.Common.{arith, ap, ◌∙◌}
use Rattle.tab_mem.specs.Lists.{part}
use Rattle.tab_mem.specs.Starts.{from_start}
use Rattle.tab_mem.proofs.Parts.{part_from_start}
use Rattle.tab_mem.proofs.searching.first_near.Goals as goal

pub returns-clause-found : goal.returns-clause-found
returns-clause-found g c =
    let listed = g.R.Ordered.listed c.args.records.now in
    part_from_start c.of-target.result.start listed c.requires.rising c.args.from c.args.end c.count_near.result (omega (arith, c.requires.before, c.requires.behind)) c.requires.inside c.count_near.ensures
    ∙ ap (λ s. from_start s (part c.args.from c.args.end listed)) c.of-target.ensures
