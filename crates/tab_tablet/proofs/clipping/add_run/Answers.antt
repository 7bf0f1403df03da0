use Rattle.std.proofs.Common.{◌∙◌, ap}
use Rattle.tab_iter.specs.Bags.{flat}
use Rattle.tab_tablet.proofs.Gathered.{flat_more}
use Rattle.tab_tablet.proofs.clipping.add_run.Goals as goal

pub returns : goal.returns
returns c = ap flat c.in_ok-push.ensures.items ∙ flat_more c.args.clips.now.items c.args.clip
