use Rattle.std.proofs.Common.{◌≡◌, ◌∙◌, ap, arith, length, subst, sym, slice_range}
use Rattle.tab_key.specs.Encoding.{record_at, span_at, IsAt}
use Rattle.tab_key.proofs.Windows.{ends_behind, piece_at, piece_record}
use Rattle.tab_mem.proofs.Moved.{piece_end}
use Rattle.tab_mem.proofs.sorting.column_item.column_at.Goals as goal

pub slice_bounds-new-count : goal.slice_bounds-new-count
slice_bounds-new-count c = omega (arith, c.requires.end, ends_behind c.args.body.now c.args.place)

pub slice_bounds-new-start : goal.slice_bounds-new-start
slice_bounds-new-start c = omega (arith, c.requires.end, ends_behind c.args.body.now c.args.place)

pub slice_bounds-new-end : goal.slice_bounds-new-end
slice_bounds-new-end c = omega (arith, c.requires.end, c.requires.within.within.whole)

pub new-requires-clause-at : goal.new-requires-clause-at
new-requires-clause-at c = subst (λ e. IsAt (slice_range c.args.body.now c.args.place e) 0) (sym c.requires.end) (piece_at c.args.body.now c.args.place c.requires.within)

pub new-requires-clause-ends : goal.new-requires-clause-ends
new-requires-clause-ends c = subst (λ e. (span_at (slice_range c.args.body.now c.args.place e) 0).end ≡ length (slice_range c.args.body.now c.args.place e)) (sym c.requires.end) (piece_end c.args.body.now c.args.place c.requires.within)

pub returns : goal.returns
returns c = c.new.ensures ∙ ap (λ e. record_at (slice_range c.args.body.now c.args.place e) 0) c.requires.end ∙ piece_record c.args.body.now c.args.place c.requires.within
