use Rattle.std.proofs.Common.{sym, ap, subst}
use Rattle.tab_key.specs.RecordSpans.{record_in, IsWithin}
use Rattle.tab_key.proofs.Placed.{head_inside}
use Rattle.tab_key.proofs.encoding.span_of.Goals as goal

pub span_at-requires-clause-head : goal.span_at-requires-clause-head
span_at-requires-clause-head c = head_inside c.args.body.now c.args.place c.requires

pub span_at-requires-clause-whole : goal.span_at-requires-clause-whole
span_at-requires-clause-whole c = c.requires.within.whole

pub returns-clause-within : goal.returns-clause-within
returns-clause-within c = subst (IsWithin c.args.body.now) (sym c.span_at.ensures) c.requires.within

pub returns-clause-is : goal.returns-clause-is
returns-clause-is c = ap (record_in c.args.body.now) c.span_at.ensures
