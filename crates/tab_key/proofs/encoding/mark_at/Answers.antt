-- A record's head lies in the body.
use Rattle.tab_key.proofs.Placed.{head_inside}
use Rattle.tab_key.proofs.encoding.mark_at.Goals as goal

pub mark_in-requires : goal.mark_in-requires
mark_in-requires c = head_inside c.args.body.now c.args.place c.requires
