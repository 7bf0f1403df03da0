use Rattle.std.proofs.Common.{◌<◌, subst}
use Rattle.std.proofs.lemmas.Bool.{MatchBool-at_false}
use Rattle.tab_version.specs.Sources.{records_of}
use Rattle.tab_tablet.specs.Selecting.{count_upto}
use Rattle.tab_tablet.proofs.Selected.{selected}
use Rattle.tab_tablet.proofs.selecting.Search.narrow.Goals as goal

pub returns : goal.returns
returns c =
    let below = MatchBool-at_false _ _ c.if-branch.false c.in_ok-cut_below.ensures in
    let above = MatchBool-at_false _ _ c.if-branch-2.false c.in_ok-cut_above.ensures in
    selected (records_of c.args.self.now.left) c.requires.distinct c.in_ok-row.row c.args.self.now.place below.1
    (subst (λ s. s.place < count_upto c.in_ok-row.row (records_of s.left)) below.0 above.1)
