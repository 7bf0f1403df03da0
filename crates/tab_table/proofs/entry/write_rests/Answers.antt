-- One rest behind the other.
use Rattle.std.proofs.Common.{◌≡◌, ◌+◌, List, ℕ, ◌++◌, ◌∙◌, take, arith}
use Rattle.std.specs.List.{slice_range}
use Rattle.tab_key.specs.Encoding.{span_at}
use Rattle.tab_table.proofs.Spliced.{chained}
use Rattle.tab_key.proofs.Placed.{head_inside}
use Rattle.tab_table.proofs.entry.write_rests.Goals as goal

pub counts_at-lens-requires : goal.counts_at-lens-requires
counts_at-lens-requires c = omega (arith, head_inside c.args.record.now 0 c.requires.record)

pub write_span-family-requires-clause-inside : goal.write_span-family-requires-clause-inside
unfolding span_at
write_span-family-requires-clause-inside c = omega (arith, c.requires.record.within.value, c.requires.record.within.whole, c.from_row-from.ensures.row, c.counts_at-lens.ensures.row, c.minus-rests.ensures.row, c.requires.row)

pub write_span-qualifier-requires-clause-inside : goal.write_span-qualifier-requires-clause-inside
unfolding span_at
write_span-qualifier-requires-clause-inside c = omega (arith, c.requires.record.within.value, c.requires.record.within.whole, c.from_row-from.ensures.family, c.counts_at-lens.ensures.row, c.counts_at-lens.ensures.family, c.minus-rests.ensures.family, c.requires.family)

pub write_span-end-requires-clause-inside : goal.write_span-end-requires-clause-inside
unfolding span_at
write_span-end-requires-clause-inside c = omega (arith, c.requires.record.within.value, c.requires.record.within.whole, c.from_row-from.ensures.qualifier, c.counts_at-lens.ensures.row, c.counts_at-lens.ensures.family, c.counts_at-lens.ensures.qualifier, c.minus-rests.ensures.qualifier, c.requires.qualifier)

pub write_span-requires-clause-inside : goal.write_span-requires-clause-inside
unfolding span_at
write_span-requires-clause-inside c = omega (arith, c.requires.record.within.value, c.requires.record.within.whole, c.from_row-from.ensures.label, c.counts_at-lens.ensures.row, c.counts_at-lens.ensures.family, c.counts_at-lens.ensures.qualifier, c.counts_at-lens.ensures.label, c.minus-rests.ensures.label, c.requires.label)

pub returns-clause-bytes : goal.returns-clause-bytes
unfolding span_at
returns-clause-bytes c =
    let o = c.args.out.now in
    let bytes = c.args.record.now in
    let counts = c.args.counts in
    let from = c.from_row-from.result in
    let fe = c.from_row-from.ensures in
    let le = c.counts_at-lens.ensures in
    let rests = c.minus-rests.result in
    let me = c.minus-rests.ensures in
    let s = span_at bytes 0 in
    let x1 : List ℕ = slice_range bytes (from.row + counts.row) (from.row + counts.row + rests.row) in
    let x2 : List ℕ = slice_range bytes (from.family + counts.family) (from.family + counts.family + rests.family) in
    let x3 : List ℕ = slice_range bytes (from.qualifier + counts.qualifier) (from.qualifier + counts.qualifier + rests.qualifier) in
    let a1 : from.row + counts.row ≡ s.start + counts.row = omega (arith, fe.row) in
    let b1 : from.row + counts.row + rests.row ≡ s.row_end = omega (arith, fe.row, le.row, me.row, c.requires.row) in
    let a2 : from.family + counts.family ≡ s.row_end + counts.family = omega (arith, fe.family, le.row) in
    let b2 : from.family + counts.family + rests.family ≡ s.family_end = omega (arith, fe.family, le.row, le.family, me.family, c.requires.family) in
    let a3 : from.qualifier + counts.qualifier ≡ s.family_end + counts.qualifier = omega (arith, fe.qualifier, le.row, le.family) in
    let b3 : from.qualifier + counts.qualifier + rests.qualifier ≡ s.qualifier_end = omega (arith, fe.qualifier, le.row, le.family, le.qualifier, me.qualifier, c.requires.qualifier) in
    let a4 : from.label + counts.label ≡ s.qualifier_end + counts.label = omega (arith, fe.label, le.row, le.family, le.qualifier) in
    let b4 : from.label + counts.label + rests.label ≡ s.label_end = omega (arith, fe.label, le.row, le.family, le.qualifier, le.label, me.label, c.requires.label) in
    let two = chained o c.write_span-family.new.out c.write_span-qualifier.new.out x1 x2 c.args.place c.write_span-family.result c.write_span-qualifier.result c.write_span-family.ensures.bytes c.write_span-qualifier.ensures.bytes in
    let three = chained o c.write_span-qualifier.new.out c.write_span-end.new.out (x1 ++ x2) x3 c.args.place c.write_span-qualifier.result c.write_span-end.result two c.write_span-end.ensures.bytes in
    let four = chained o c.write_span-end.new.out c.write_span.new.out (x1 ++ x2 ++ x3) (slice_range bytes (from.label + counts.label) (from.label + counts.label + rests.label)) c.args.place c.write_span-end.result c.write_span.result three c.write_span.ensures.bytes in
    four ∙ (λ i. take c.args.place o ++ (slice_range bytes (a1 i) (b1 i) ++ slice_range bytes (a2 i) (b2 i) ++ slice_range bytes (a3 i) (b3 i) ++ slice_range bytes (a4 i) (b4 i)))

pub returns-clause-inside : goal.returns-clause-inside
returns-clause-inside c = omega (arith, c.write_span-family.ensures.end, c.write_span-qualifier.ensures.end, c.write_span-end.ensures.end, c.write_span.ensures.end, c.minus-rests.ensures.row, c.minus-rests.ensures.family, c.minus-rests.ensures.qualifier, c.minus-rests.ensures.label, c.counts_at-lens.ensures.row, c.counts_at-lens.ensures.family, c.counts_at-lens.ensures.qualifier, c.counts_at-lens.ensures.label)
