use Rattle.std.proofs.Common.{◌∙◌, ap}
use Rattle.std.specs.Prelude.{map}
use Rattle.tab_iter.specs.Bags.{flat}
use Rattle.tab_tablets.specs.Places.{tablet_at}
use Rattle.tab_tablets.proofs.Bare.{adds_none, adds_one}
use Rattle.tab_tablets.proofs.Ranges.{in_its_order, part_sorted}
use Rattle.tab_tablets.proofs.opening.add_clips_beside.Goals as goal

pub returns-then-holds_nothing : goal.returns-then-holds_nothing
returns-then-holds_nothing c = adds_none c.args.bounds.now (tablet_at c.args.tablet_list.now c.args.place) c.tablet.result.now c.args.clips.now.items c.tablet.ensures (c.holds_nothing.ensures.frozen c.if-holds_nothing.true) (c.holds_nothing.ensures.none c.if-holds_nothing.true)

pub returns : goal.returns
returns c =
    ap (λ cs. flat (map in_its_order cs)) c.in_ok-push.ensures.items ∙ adds_one c.args.clips.now.items c.in_ok-clips_beside.field-0 (part_sorted c.args.bounds.now (tablet_at c.args.tablet_list.now c.args.place)) c.in_ok-clips_beside.ensures
