use Rattle.tab_key.proofs.Placed.{head_inside}
use Rattle.tab_key.proofs.encoding.end_of.Goals as goal

pub span_at-requires-clause-head : goal.span_at-requires-clause-head
span_at-requires-clause-head c = head_inside c.args.body.now c.args.place c.requires

pub span_at-requires-clause-whole : goal.span_at-requires-clause-whole
span_at-requires-clause-whole c = c.requires.within.whole
