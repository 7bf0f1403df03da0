use Rattle.std.proofs.Common.{◌<◌, length, arith}
use Rattle.std.proofs.lemmas.List.{length-map}
use Rattle.tab_key.specs.Sorted.{sorted}
use Rattle.tab_version.specs.Sources.{Sources, records_of}
use Rattle.tab_version.proofs.InOrder.{one_distinct}
use Rattle.tab_version.proofs.tablets.TabletsListsTabletSource.source_at.Goals as goal

pub new-requires-clause-distinct : goal.new-requires-clause-distinct
new-requires-clause-distinct c =
    let ts = c.args.self.now.tablets.now in
    let lt : c.args.index < length ts = omega (arith, c.requires.inside, length-map ts (λ (s : Sources). sorted (records_of s))) in
    one_distinct ts c.args.index c.index-tablets-index.result _ lt c.requires.in_turn.rising c.index-tablets-index.is c.in_ok-cursors.ensures.whole
