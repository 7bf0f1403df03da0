-- One part behind the other.
use Rattle.std.proofs.Common.{◌≡◌, ◌≤◌, ◌+◌, ◌-◌, List, ℕ, ◌++◌, sym, ◌∙◌, ap, length, take, arith}
use Rattle.std.specs.List.{slice_range}
use Rattle.tab_key.specs.Encoding.{length_at, span_at}
use Rattle.tab_table.specs.Decoding.{spliced, parts_in}
use Rattle.tab_table.proofs.Spliced.{chained, front_kept, front_shorter, still_span}
use Rattle.tab_table.proofs.rebuilding.write_parts.Goals as goal

pub from_row-rest-requires : goal.from_row-rest-requires
from_row-rest-requires c = omega (arith, c.requires.rests, c.requires.read.row_rest, c.requires.read.family_rest, c.requires.read.qualifier_rest)

pub splice-family-requires-clause-before : goal.splice-family-requires-clause-before
splice-family-requires-clause-before c = omega (arith, c.requires.base, c.requires.row, c.from_row-from.ensures.row, c.requires.read.row, c.requires.read.row_rest)

pub splice-family-requires-clause-inside : goal.splice-family-requires-clause-inside
splice-family-requires-clause-inside c = omega (arith, c.requires.rests, c.from_row-rest.ensures.row, c.requires.read.row, c.requires.read.row_rest)

pub splice-family-requires-clause-room : goal.splice-family-requires-clause-room
splice-family-requires-clause-room c = omega (arith, c.requires.room, c.requires.read.row, c.requires.read.row_rest)

pub splice-family-requires-clause-count : goal.splice-family-requires-clause-count
splice-family-requires-clause-count c = λ t. omega (arith, (c.requires.steps t).row, c.requires.read.row)

pub splice-family-requires-clause-len : goal.splice-family-requires-clause-len
splice-family-requires-clause-len c = λ t. omega (arith, (c.requires.steps t).row, c.requires.read.row_rest)

pub splice-family-requires-clause-ahead : goal.splice-family-requires-clause-ahead
splice-family-requires-clause-ahead c = λ t. omega (arith, (c.requires.steps t).ahead, c.from_row-rest.ensures.row)

pub splice-qualifier-requires-clause-before : goal.splice-qualifier-requires-clause-before
splice-qualifier-requires-clause-before c = omega (arith, c.requires.base, c.requires.family, c.from_row-from.ensures.family, c.counts_at-lens.ensures.row, c.requires.read.row, c.requires.read.row_rest, c.requires.read.family, c.requires.read.family_rest, c.splice-family.ensures.end, c.splice-family.ensures.length)

pub splice-qualifier-requires-clause-inside : goal.splice-qualifier-requires-clause-inside
splice-qualifier-requires-clause-inside c = omega (arith, c.requires.rests, c.from_row-rest.ensures.family, c.requires.read.row, c.requires.read.row_rest, c.requires.read.family, c.requires.read.family_rest)

pub splice-qualifier-requires-clause-room : goal.splice-qualifier-requires-clause-room
splice-qualifier-requires-clause-room c = omega (arith, c.requires.room, c.requires.read.row, c.requires.read.row_rest, c.requires.read.family, c.requires.read.family_rest, c.splice-family.ensures.end, c.splice-family.ensures.length)

pub splice-qualifier-requires-clause-count : goal.splice-qualifier-requires-clause-count
splice-qualifier-requires-clause-count c = λ t. omega (arith, (c.requires.steps t).family, c.requires.read.family)

pub splice-qualifier-requires-clause-len : goal.splice-qualifier-requires-clause-len
splice-qualifier-requires-clause-len c = λ t. omega (arith, (c.requires.steps t).family, c.requires.read.family_rest)

pub splice-qualifier-requires-clause-ahead : goal.splice-qualifier-requires-clause-ahead
splice-qualifier-requires-clause-ahead c = λ t. omega (arith, (c.requires.steps t).ahead, c.from_row-rest.ensures.family, (c.requires.steps t).row, c.requires.read.row_rest)

pub splice-label-requires-clause-before : goal.splice-label-requires-clause-before
splice-label-requires-clause-before c = omega (arith, c.requires.base, c.requires.qualifier, c.from_row-from.ensures.qualifier, c.counts_at-lens.ensures.row, c.counts_at-lens.ensures.family, c.requires.read.row, c.requires.read.row_rest, c.requires.read.family, c.requires.read.family_rest, c.requires.read.qualifier, c.requires.read.qualifier_rest, c.splice-family.ensures.end, c.splice-family.ensures.length, c.splice-qualifier.ensures.end, c.splice-qualifier.ensures.length)

pub splice-label-requires-clause-inside : goal.splice-label-requires-clause-inside
splice-label-requires-clause-inside c = omega (arith, c.requires.rests, c.from_row-rest.ensures.qualifier, c.requires.read.row, c.requires.read.row_rest, c.requires.read.family, c.requires.read.family_rest, c.requires.read.qualifier, c.requires.read.qualifier_rest)

pub splice-label-requires-clause-room : goal.splice-label-requires-clause-room
splice-label-requires-clause-room c = omega (arith, c.requires.room, c.requires.read.row, c.requires.read.row_rest, c.requires.read.family, c.requires.read.family_rest, c.requires.read.qualifier, c.requires.read.qualifier_rest, c.splice-family.ensures.end, c.splice-family.ensures.length, c.splice-qualifier.ensures.end, c.splice-qualifier.ensures.length)

pub splice-label-requires-clause-count : goal.splice-label-requires-clause-count
splice-label-requires-clause-count c = λ t. omega (arith, (c.requires.steps t).qualifier, c.requires.read.qualifier)

pub splice-label-requires-clause-len : goal.splice-label-requires-clause-len
splice-label-requires-clause-len c = λ t. omega (arith, (c.requires.steps t).qualifier, c.requires.read.qualifier_rest)

pub splice-label-requires-clause-ahead : goal.splice-label-requires-clause-ahead
splice-label-requires-clause-ahead c = λ t. omega (arith, (c.requires.steps t).ahead, c.from_row-rest.ensures.qualifier, (c.requires.steps t).row, c.requires.read.row_rest, (c.requires.steps t).family, c.requires.read.family_rest)

pub splice-requires-clause-before : goal.splice-requires-clause-before
splice-requires-clause-before c = omega (arith, c.requires.base, c.requires.label, c.from_row-from.ensures.label, c.counts_at-lens.ensures.row, c.counts_at-lens.ensures.family, c.counts_at-lens.ensures.qualifier, c.requires.read.row, c.requires.read.row_rest, c.requires.read.family, c.requires.read.family_rest, c.requires.read.qualifier, c.requires.read.qualifier_rest, c.requires.read.label, c.requires.read.label_rest, c.splice-family.ensures.end, c.splice-family.ensures.length, c.splice-qualifier.ensures.end, c.splice-qualifier.ensures.length, c.splice-label.ensures.end, c.splice-label.ensures.length)

pub splice-requires-clause-inside : goal.splice-requires-clause-inside
splice-requires-clause-inside c = omega (arith, c.requires.rests, c.from_row-rest.ensures.label, c.requires.read.row, c.requires.read.row_rest, c.requires.read.family, c.requires.read.family_rest, c.requires.read.qualifier, c.requires.read.qualifier_rest, c.requires.read.label, c.requires.read.label_rest)

pub splice-requires-clause-room : goal.splice-requires-clause-room
splice-requires-clause-room c = omega (arith, c.requires.room, c.requires.read.row, c.requires.read.row_rest, c.requires.read.family, c.requires.read.family_rest, c.requires.read.qualifier, c.requires.read.qualifier_rest, c.requires.read.label, c.requires.read.label_rest, c.splice-family.ensures.end, c.splice-family.ensures.length, c.splice-qualifier.ensures.end, c.splice-qualifier.ensures.length, c.splice-label.ensures.end, c.splice-label.ensures.length)

pub splice-requires-clause-count : goal.splice-requires-clause-count
splice-requires-clause-count c = λ t. omega (arith, (c.requires.steps t).label, c.requires.read.label)

pub splice-requires-clause-len : goal.splice-requires-clause-len
splice-requires-clause-len c = λ t. omega (arith, (c.requires.steps t).label, c.requires.read.label_rest)

pub splice-requires-clause-ahead : goal.splice-requires-clause-ahead
splice-requires-clause-ahead c = λ t. omega (arith, (c.requires.steps t).ahead, c.from_row-rest.ensures.label, (c.requires.steps t).row, c.requires.read.row_rest, (c.requires.steps t).family, c.requires.read.family_rest, (c.requires.steps t).qualifier, c.requires.read.qualifier_rest)

pub returns-clause-end : goal.returns-clause-end
returns-clause-end c = omega (arith, c.splice-family.ensures.end, c.splice-qualifier.ensures.end, c.splice-label.ensures.end, c.splice.ensures.end, c.requires.read.row, c.requires.read.row_rest, c.requires.read.family, c.requires.read.family_rest, c.requires.read.qualifier, c.requires.read.qualifier_rest, c.requires.read.label, c.requires.read.label_rest)

pub returns-clause-bytes : goal.returns-clause-bytes
unfolding span_at
returns-clause-bytes c =
    let o = c.args.out.now in
    let blocks = c.args.blocks.now in
    let place = c.args.place in
    let base = c.args.base in
    let at = c.args.at in
    let from = c.from_row-from.result in
    let rest = c.from_row-rest.result in
    let counts = c.args.entry.counts in
    let rests = c.args.entry.rests in
    let lens = c.counts_at-lens.result in
    let fe = c.from_row-from.ensures in
    let re = c.from_row-rest.ensures in
    let read = c.requires.read in
    let le = c.counts_at-lens.ensures in
    let o1 = c.splice-family.new.out in
    let o2 = c.splice-qualifier.new.out in
    let o3 = c.splice-label.new.out in
    let e1 = c.splice-family.result in
    let e2 = c.splice-qualifier.result in
    let e3 = c.splice-label.result in
    let low : place ≤ length o = omega (arith, c.requires.room) in
    let x1 : List ℕ = slice_range o from.row (from.row + counts.row) ++ slice_range blocks rest.row (rest.row + rests.row) in
    let x2 : List ℕ = slice_range o1 from.family (from.family + counts.family) ++ slice_range blocks rest.family (rest.family + rests.family) in
    let x3 : List ℕ = slice_range o2 from.qualifier (from.qualifier + counts.qualifier) ++ slice_range blocks rest.qualifier (rest.qualifier + rests.qualifier) in
    let x4 : List ℕ = slice_range o3 from.label (from.label + counts.label) ++ slice_range blocks rest.label (rest.label + rests.label) in
    let h1 = c.splice-family.ensures.bytes in
    let h2 = c.splice-qualifier.ensures.bytes in
    let h3 = c.splice-label.ensures.bytes in
    let h4 = c.splice.ensures.bytes in
    let up1 : place ≤ e1 = omega (arith, c.splice-family.ensures.end) in
    let up2 : e1 ≤ e2 = omega (arith, c.splice-qualifier.ensures.end) in
    let up3 : e2 ≤ e3 = omega (arith, c.splice-label.ensures.end) in
    let in1 : e1 ≤ length o1 = omega (arith, c.splice-family.ensures.end, c.splice-family.ensures.length, c.requires.room, read.row, read.row_rest) in
    let in2 : e2 ≤ length o2 = omega (arith, c.splice-qualifier.ensures.end, c.splice-family.ensures.end, c.splice-qualifier.ensures.length, c.splice-family.ensures.length, c.requires.room, read.row, read.row_rest, read.family, read.family_rest) in
    let k1 : take place o1 ≡ take place o = front_kept o o1 x1 place e1 low up1 h1 in
    let k2 : take place o2 ≡ take place o = front_shorter o1 o2 place e1 up1 (front_kept o1 o2 x2 e1 e2 in1 up2 h2) ∙ k1 in
    let k3 : take place o3 ≡ take place o = front_shorter o2 o3 place e2 (omega (arith, up1, up2)) (front_kept o2 o3 x3 e2 e3 in2 up3 h3) ∙ k2 in
    let s = span_at o base in
    let q = span_at blocks (at + 16) in
    let f1 : from.row ≡ s.start = fe.row in
    let f2 : from.family ≡ s.row_end = omega (arith, fe.family, le.row) in
    let f3 : from.qualifier ≡ s.family_end = omega (arith, fe.qualifier, le.row, le.family) in
    let f4 : from.label ≡ s.qualifier_end = omega (arith, fe.label, le.row, le.family, le.qualifier) in
    let r1 : rest.row ≡ q.start = omega (arith, re.row) in
    let r2 : rest.family ≡ q.row_end = omega (arith, re.family, read.row_rest) in
    let r3 : rest.qualifier ≡ q.family_end = omega (arith, re.qualifier, read.row_rest, read.family_rest) in
    let r4 : rest.label ≡ q.qualifier_end = omega (arith, re.label, read.row_rest, read.family_rest, read.qualifier_rest) in
    let z1 : rest.row + rests.row ≡ q.row_end = omega (arith, re.row, read.row_rest) in
    let z2 : rest.family + rests.family ≡ q.family_end = omega (arith, re.family, read.row_rest, read.family_rest) in
    let z3 : rest.qualifier + rests.qualifier ≡ q.qualifier_end = omega (arith, re.qualifier, read.row_rest, read.family_rest, read.qualifier_rest) in
    let z4 : rest.label + rests.label ≡ q.label_end = omega (arith, re.label, read.row_rest, read.family_rest, read.qualifier_rest, read.label_rest) in
    let p1 : x1 ≡ spliced o s.start (length_at blocks at) blocks q.start q.row_end = λ i. slice_range o (f1 i) (f1 i + read.row i) ++ slice_range blocks (r1 i) (z1 i) in
    let s2 = still_span o o1 place from.family (from.family + counts.family) low k1 (omega arith) (omega (arith, c.requires.base, c.requires.family, fe.family, le.row, read.family)) in
    let p2 : x2 ≡ spliced o s.row_end (length_at blocks (at + 4)) blocks q.row_end q.family_end = (λ i. s2 i ++ slice_range blocks rest.family (rest.family + rests.family)) ∙ (λ i. slice_range o (f2 i) (f2 i + read.family i) ++ slice_range blocks (r2 i) (z2 i)) in
    let s3 = still_span o o2 place from.qualifier (from.qualifier + counts.qualifier) low k2 (omega arith) (omega (arith, c.requires.base, c.requires.qualifier, fe.qualifier, le.row, le.family, read.qualifier)) in
    let p3 : x3 ≡ spliced o s.family_end (length_at blocks (at + 8)) blocks q.family_end q.qualifier_end = (λ i. s3 i ++ slice_range blocks rest.qualifier (rest.qualifier + rests.qualifier)) ∙ (λ i. slice_range o (f3 i) (f3 i + read.qualifier i) ++ slice_range blocks (r3 i) (z3 i)) in
    let s4 = still_span o o3 place from.label (from.label + counts.label) low k3 (omega arith) (omega (arith, c.requires.base, c.requires.label, fe.label, le.row, le.family, le.qualifier, read.label)) in
    let p4 : x4 ≡ spliced o s.qualifier_end (length_at blocks (at + 12)) blocks q.qualifier_end q.label_end = (λ i. s4 i ++ slice_range blocks rest.label (rest.label + rests.label)) ∙ (λ i. slice_range o (f4 i) (f4 i + read.label i) ++ slice_range blocks (r4 i) (z4 i)) in
    let two = chained o o1 o2 x1 x2 place e1 e2 h1 h2 in
    let three = chained o o2 o3 (x1 ++ x2) x3 place e2 e3 two h3 in
    let four = chained o o3 c.splice.new.out (x1 ++ x2 ++ x3) x4 place e3 c.splice.result three h4 in
    four ∙ (λ i. take place o ++ (p1 i ++ p2 i ++ p3 i ++ p4 i))
