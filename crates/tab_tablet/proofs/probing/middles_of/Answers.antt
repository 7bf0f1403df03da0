use Rattle.std.proofs.Common.{◌≡◌, ◌++◌, [], subst}
use Rattle.tab_iter.specs.Bags.{flat}
use Rattle.tab_version.specs.Sources.{records_of}
use Rattle.tab_tablet.specs.Selecting.{AreMiddles}
use Rattle.tab_tablet.proofs.Clipped.{held_in}
use Rattle.tab_tablet.proofs.Middles.{none_yet, moved}
use Rattle.tab_tablet.proofs.probing.middles_of.Goals as goal

pub returns : goal.returns
returns c =
    let runs = flat c.runs.result.now in
    let all : runs ++ held_in c.tables.result.now ≡ records_of c.args.sources.now = λ i. flat (c.runs.ensures i) ++ held_in (c.tables.ensures i) in
    let of_runs : AreMiddles runs c.add_runs.new.middles.items = c.in_ok-add_runs.ensures [] (none_yet c.new-middles.result.items c.new-middles.ensures.items) in
    subst (λ us. AreMiddles us c.sort_unstable_by.new.self.items) all (moved _ _ _ c.sort_unstable_by.ensures.permutation (c.in_ok-add_tables.ensures runs of_runs))
