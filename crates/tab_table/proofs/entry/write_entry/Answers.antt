-- The counts, the head and the rests, one behind the other.
use Rattle.std.proofs.Common.{◌≡◌, ◌-◌, ◌++◌, ◌∙◌, ap, arith}
use Rattle.std.specs.List.{slice_range}
use Rattle.tab_key.specs.Encoding.{length_at, four_bytes}
use Rattle.tab_table.specs.EntryBytes.{rests_of}
use Rattle.tab_table.proofs.Headed.{row_width, family_width, qualifier_width, label_width}
use Rattle.tab_key.proofs.Placed.{head_inside}
use Rattle.tab_table.proofs.entry.write_entry.Goals as goal

pub counts_at-lens-requires : goal.counts_at-lens-requires
counts_at-lens-requires c = omega (arith, head_inside c.args.record.now 0 c.requires.record)

pub write_head-requires-clause-head : goal.write_head-requires-clause-head
write_head-requires-clause-head c = omega (arith, head_inside c.args.record.now 0 c.requires.record)

pub minus-rests-requires-clause-row : goal.minus-rests-requires-clause-row
minus-rests-requires-clause-row c = omega (arith, c.counts_at-lens.ensures.row, c.requires.row, row_width c.args.record.now 0 c.requires.record)

pub write_lens-requires-clause-row : goal.write_lens-requires-clause-row
write_lens-requires-clause-row c = omega (arith, c.requires.row, c.requires.record.short.row)

pub write_head-requires-clause-row : goal.write_head-requires-clause-row
write_head-requires-clause-row c = omega (arith, c.minus-rests.ensures.row, c.counts_at-lens.ensures.small_row)

pub write_rests-requires-clause-row : goal.write_rests-requires-clause-row
write_rests-requires-clause-row c = omega (arith, c.requires.row, row_width c.args.record.now 0 c.requires.record)

pub minus-rests-requires-clause-family : goal.minus-rests-requires-clause-family
minus-rests-requires-clause-family c = omega (arith, c.counts_at-lens.ensures.family, c.requires.family, family_width c.args.record.now 0 c.requires.record)

pub write_lens-requires-clause-family : goal.write_lens-requires-clause-family
write_lens-requires-clause-family c = omega (arith, c.requires.family, c.requires.record.short.family)

pub write_head-requires-clause-family : goal.write_head-requires-clause-family
write_head-requires-clause-family c = omega (arith, c.minus-rests.ensures.family, c.counts_at-lens.ensures.small_family)

pub write_rests-requires-clause-family : goal.write_rests-requires-clause-family
write_rests-requires-clause-family c = omega (arith, c.requires.family, family_width c.args.record.now 0 c.requires.record)

pub minus-rests-requires-clause-qualifier : goal.minus-rests-requires-clause-qualifier
minus-rests-requires-clause-qualifier c = omega (arith, c.counts_at-lens.ensures.qualifier, c.requires.qualifier, qualifier_width c.args.record.now 0 c.requires.record)

pub write_lens-requires-clause-qualifier : goal.write_lens-requires-clause-qualifier
write_lens-requires-clause-qualifier c = omega (arith, c.requires.qualifier, c.requires.record.short.qualifier)

pub write_head-requires-clause-qualifier : goal.write_head-requires-clause-qualifier
write_head-requires-clause-qualifier c = omega (arith, c.minus-rests.ensures.qualifier, c.counts_at-lens.ensures.small_qualifier)

pub write_rests-requires-clause-qualifier : goal.write_rests-requires-clause-qualifier
write_rests-requires-clause-qualifier c = omega (arith, c.requires.qualifier, qualifier_width c.args.record.now 0 c.requires.record)

pub minus-rests-requires-clause-label : goal.minus-rests-requires-clause-label
minus-rests-requires-clause-label c = omega (arith, c.counts_at-lens.ensures.label, c.requires.label, label_width c.args.record.now 0 c.requires.record)

pub write_lens-requires-clause-label : goal.write_lens-requires-clause-label
write_lens-requires-clause-label c = omega (arith, c.requires.label, c.requires.record.short.label)

pub write_head-requires-clause-label : goal.write_head-requires-clause-label
write_head-requires-clause-label c = omega (arith, c.minus-rests.ensures.label, c.counts_at-lens.ensures.small_label)

pub write_rests-requires-clause-label : goal.write_rests-requires-clause-label
write_rests-requires-clause-label c = omega (arith, c.requires.label, label_width c.args.record.now 0 c.requires.record)

pub write_rests-requires-clause-room : goal.write_rests-requires-clause-room
write_rests-requires-clause-room c = omega (arith, c.requires.room, c.write_lens.ensures.length, c.write_head.ensures.length, row_width c.args.record.now 0 c.requires.record, family_width c.args.record.now 0 c.requires.record, qualifier_width c.args.record.now 0 c.requires.record, label_width c.args.record.now 0 c.requires.record)

pub returns-clause-bytes : goal.returns-clause-bytes
returns-clause-bytes c =
    let bytes = c.args.record.now in
    let n = c.args.counts in
    let le = c.counts_at-lens.ensures in
    let me = c.minus-rests.ensures in
    let a : c.minus-rests.result.row ≡ length_at bytes 0 - n.row = me.row ∙ ap (λ k. k - n.row) le.row in
    let b : c.minus-rests.result.family ≡ length_at bytes 4 - n.family = me.family ∙ ap (λ k. k - n.family) le.family in
    let d : c.minus-rests.result.qualifier ≡ length_at bytes 8 - n.qualifier = me.qualifier ∙ ap (λ k. k - n.qualifier) le.qualifier in
    let e : c.minus-rests.result.label ≡ length_at bytes 12 - n.label = me.label ∙ ap (λ k. k - n.label) le.label in
    let head = c.write_head.ensures.bytes ∙ (λ i. c.write_lens.ensures.bytes i ++ ((four_bytes (a i) ++ four_bytes (b i) ++ four_bytes (d i) ++ four_bytes (e i)) ++ slice_range bytes 16 41)) in
    c.write_rests.ensures.bytes ∙ ap (λ xs. xs ++ rests_of n.row n.family n.qualifier n.label bytes) head

pub returns-clause-inside : goal.returns-clause-inside
returns-clause-inside c = omega (arith, c.write_rests.ensures.inside, c.write_rests.ensures.length, c.write_head.ensures.length, c.write_lens.ensures.length, c.requires.room, row_width c.args.record.now 0 c.requires.record, family_width c.args.record.now 0 c.requires.record, qualifier_width c.args.record.now 0 c.requires.record, label_width c.args.record.now 0 c.requires.record)
