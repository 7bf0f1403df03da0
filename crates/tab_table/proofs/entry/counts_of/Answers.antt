-- The parts lie where the lengths say.
use Rattle.std.proofs.Common.{◌≡◌, ◌+◌, ◌∙◌, arith}
use Rattle.std.specs.List.{slice_range}
use Rattle.tab_key.specs.Encoding.{span_at}
use Rattle.tab_key.proofs.Placed.{head_inside}
use Rattle.tab_table.specs.Sizes.{shared}
use Rattle.tab_table.proofs.entry.counts_of.Goals as goal

pub counts_at-lens-requires : goal.counts_at-lens-requires
counts_at-lens-requires c = omega (arith, head_inside c.args.last.now 0 c.requires.last)

pub counts_at-others-requires : goal.counts_at-others-requires
counts_at-others-requires c = omega (arith, head_inside c.args.next.now 0 c.requires.next)

pub shared_part-row-requires-clause-first : goal.shared_part-row-requires-clause-first
unfolding span_at
shared_part-row-requires-clause-first c = omega (arith, c.requires.last.within.value, c.requires.last.within.whole, c.from_row-from.ensures.row, c.counts_at-lens.ensures.row)

pub shared_part-row-requires-clause-second : goal.shared_part-row-requires-clause-second
unfolding span_at
shared_part-row-requires-clause-second c = omega (arith, c.requires.next.within.value, c.requires.next.within.whole, c.from_row-place.ensures.row, c.counts_at-others.ensures.row)

pub shared_part-family-requires-clause-first : goal.shared_part-family-requires-clause-first
unfolding span_at
shared_part-family-requires-clause-first c = omega (arith, c.requires.last.within.value, c.requires.last.within.whole, c.from_row-from.ensures.family, c.counts_at-lens.ensures.row, c.counts_at-lens.ensures.family)

pub shared_part-family-requires-clause-second : goal.shared_part-family-requires-clause-second
unfolding span_at
shared_part-family-requires-clause-second c = omega (arith, c.requires.next.within.value, c.requires.next.within.whole, c.from_row-place.ensures.family, c.counts_at-others.ensures.row, c.counts_at-others.ensures.family)

pub shared_part-qualifier-requires-clause-first : goal.shared_part-qualifier-requires-clause-first
unfolding span_at
shared_part-qualifier-requires-clause-first c = omega (arith, c.requires.last.within.value, c.requires.last.within.whole, c.from_row-from.ensures.qualifier, c.counts_at-lens.ensures.row, c.counts_at-lens.ensures.family, c.counts_at-lens.ensures.qualifier)

pub shared_part-qualifier-requires-clause-second : goal.shared_part-qualifier-requires-clause-second
unfolding span_at
shared_part-qualifier-requires-clause-second c = omega (arith, c.requires.next.within.value, c.requires.next.within.whole, c.from_row-place.ensures.qualifier, c.counts_at-others.ensures.row, c.counts_at-others.ensures.family, c.counts_at-others.ensures.qualifier)

pub shared_part-label-requires-clause-first : goal.shared_part-label-requires-clause-first
unfolding span_at
shared_part-label-requires-clause-first c = omega (arith, c.requires.last.within.value, c.requires.last.within.whole, c.from_row-from.ensures.label, c.counts_at-lens.ensures.row, c.counts_at-lens.ensures.family, c.counts_at-lens.ensures.qualifier, c.counts_at-lens.ensures.label)

pub shared_part-label-requires-clause-second : goal.shared_part-label-requires-clause-second
unfolding span_at
shared_part-label-requires-clause-second c = omega (arith, c.requires.next.within.value, c.requires.next.within.whole, c.from_row-place.ensures.label, c.counts_at-others.ensures.row, c.counts_at-others.ensures.family, c.counts_at-others.ensures.qualifier, c.counts_at-others.ensures.label)

pub returns : goal.returns
unfolding span_at
returns c =
    let last = c.args.last.now in
    let next = c.args.next.now in
    let s = span_at last 0 in
    let t = span_at next 0 in
    let le = c.counts_at-lens.ensures in
    let oe = c.counts_at-others.ensures in
    let fe = c.from_row-from.ensures in
    let pe = c.from_row-place.ensures in
    let from = c.from_row-from.result in
    let place = c.from_row-place.result in
    let lens = c.counts_at-lens.result in
    let others = c.counts_at-others.result in
    let row_from : from.row ≡ s.start = omega (arith, fe.row) in
    let row_upto : from.row + lens.row ≡ s.row_end = omega (arith, fe.row, le.row) in
    let row_place : place.row ≡ t.start = omega (arith, pe.row) in
    let row_end : place.row + others.row ≡ t.row_end = omega (arith, pe.row, oe.row) in
    let family_from : from.family ≡ s.row_end = omega (arith, fe.family, le.row) in
    let family_upto : from.family + lens.family ≡ s.family_end = omega (arith, fe.family, le.row, le.family) in
    let family_place : place.family ≡ t.row_end = omega (arith, pe.family, oe.row) in
    let family_end : place.family + others.family ≡ t.family_end = omega (arith, pe.family, oe.row, oe.family) in
    let qualifier_from : from.qualifier ≡ s.family_end = omega (arith, fe.qualifier, le.row, le.family) in
    let qualifier_upto : from.qualifier + lens.qualifier ≡ s.qualifier_end = omega (arith, fe.qualifier, le.row, le.family, le.qualifier) in
    let qualifier_place : place.qualifier ≡ t.family_end = omega (arith, pe.qualifier, oe.row, oe.family) in
    let qualifier_end : place.qualifier + others.qualifier ≡ t.qualifier_end = omega (arith, pe.qualifier, oe.row, oe.family, oe.qualifier) in
    let label_from : from.label ≡ s.qualifier_end = omega (arith, fe.label, le.row, le.family, le.qualifier) in
    let label_upto : from.label + lens.label ≡ s.label_end = omega (arith, fe.label, le.row, le.family, le.qualifier, le.label) in
    let label_place : place.label ≡ t.qualifier_end = omega (arith, pe.label, oe.row, oe.family, oe.qualifier) in
    let label_end : place.label + others.label ≡ t.label_end = omega (arith, pe.label, oe.row, oe.family, oe.qualifier, oe.label) in
    record {
      row = c.shared_part-row.ensures ∙ (λ i. shared (slice_range last (row_from i) (row_upto i)) (slice_range next (row_place i) (row_end i)));
      family = c.shared_part-family.ensures ∙ (λ i. shared (slice_range last (family_from i) (family_upto i)) (slice_range next (family_place i) (family_end i)));
      qualifier = c.shared_part-qualifier.ensures ∙ (λ i. shared (slice_range last (qualifier_from i) (qualifier_upto i)) (slice_range next (qualifier_place i) (qualifier_end i)));
      label = c.shared_part-label.ensures ∙ (λ i. shared (slice_range last (label_from i) (label_upto i)) (slice_range next (label_place i) (label_end i)));
    }
