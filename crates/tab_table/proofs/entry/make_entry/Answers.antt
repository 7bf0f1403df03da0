-- There is room for the parts.
use Rattle.std.proofs.Common.{rules, ◌≡◌, ap, length, arith}
use Rattle.tab_key.proofs.Placed.{head_inside}
use Rattle.tab_table.proofs.Headed.{row_width, family_width, qualifier_width, label_width}
use Rattle.tab_table.proofs.entry.make_entry.Goals as goal

pub counts_at-lens-requires : goal.counts_at-lens-requires
counts_at-lens-requires c = omega (arith, head_inside c.args.record.now 0 c.requires.record)

pub write_entry-requires-clause-room : goal.write_entry-requires-clause-room
write_entry-requires-clause-room c =
    let bytes = c.args.record.now in
    let all : c.deref_mut.result.now ≡ c.grow.new.body.items = search rules in
    omega (arith, ap length all, c.in_ok-grow.ensures.long, c.sum.ensures, c.counts_at-lens.ensures.row, c.counts_at-lens.ensures.family, c.counts_at-lens.ensures.qualifier, c.counts_at-lens.ensures.label, row_width bytes 0 c.requires.record, family_width bytes 0 c.requires.record, qualifier_width bytes 0 c.requires.record, label_width bytes 0 c.requires.record)
