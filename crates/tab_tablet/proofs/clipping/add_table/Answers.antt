use Rattle.std.proofs.Common.{◌∙◌, ap}
use Rattle.tab_tablet.proofs.Clipped.{held_in, held_more}
use Rattle.tab_tablet.proofs.clipping.add_table.Goals as goal

pub returns : goal.returns
returns c = ap held_in c.in_ok-push.ensures.items ∙ held_more c.args.clips.now.items c.args.clip
