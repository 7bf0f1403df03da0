use Rattle.std.proofs.Common.{◌∙◌, ap}
use Rattle.std.specs.Prelude.{map}
use Rattle.tab_iter.specs.Bags.{flat}
use Rattle.tab_tablets.specs.Places.{tablet_at}
use Rattle.tab_tablets.proofs.Bare.{adds_one}
use Rattle.tab_tablets.proofs.Ranges.{in_its_order, part_sorted}
use Rattle.tab_tablets.proofs.opening.push_clips_at.Goals as goal

pub returns-clause-clips : goal.returns-clause-clips
returns-clause-clips c =
    ap (λ cs. flat (map in_its_order cs)) c.in_ok-push.ensures.items ∙ adds_one c.args.clips.now.items c.in_ok-clips_at.field-0 (part_sorted c.args.bounds.now (tablet_at c.args.tablet_list.now c.args.place)) c.in_ok-clips_at.ensures.clips
