use Rattle.std.proofs.Common.{◌<◌, ◌∙◌, ap, sym, subst, slice_range}
use Rattle.tab_mem.specs.Lists.{IsFilled}
use Rattle.tab_mem.specs.Parting.{records_in}
use Rattle.tab_mem.proofs.Spanned.{count_filled}
use Rattle.tab_mem.proofs.sorting.grouping.group_at.Goals as goal

pub new-requires-clause-filled : goal.new-requires-clause-filled
new-requires-clause-filled c =
    let bytes = slice_range c.args.body.now c.args.place c.args.span.end in
    subst (IsFilled bytes) (sym (count_filled bytes c.args.span.count c.requires.filled)) c.requires.filled

pub new-requires-clause-some : goal.new-requires-clause-some
new-requires-clause-some c =
    let bytes = slice_range c.args.body.now c.args.place c.args.span.end in
    subst (λ n. 0 < n) (sym (count_filled bytes c.args.span.count c.requires.filled)) c.requires.some

pub returns : goal.returns
returns c =
    let bytes = slice_range c.args.body.now c.args.place c.args.span.end in
    c.new.ensures ∙ ap (records_in bytes) (count_filled bytes c.args.span.count c.requires.filled)
