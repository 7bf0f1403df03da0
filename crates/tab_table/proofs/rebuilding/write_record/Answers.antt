-- What is few may be written in steps.
use Rattle.std.proofs.Common.{◌≤◌, ◌+◌, ◌-◌, length, take, arith}
use Rattle.tab_table.specs.Decoding.{key_at}
use Rattle.tab_table.proofs.Inside.{counts_inside}
use Rattle.tab_table.proofs.Rebuilt.{row_short, family_short, qualifier_short, label_short}
use Rattle.tab_table.proofs.rebuilding.write_record.Goals as goal

pub at-entry-requires : goal.at-entry-requires
at-entry-requires c = omega (arith, counts_inside c.args.blocks.now c.args.at c.requires.entry.rest)

pub plus-lens-requires-clause-row : goal.plus-lens-requires-clause-row
plus-lens-requires-clause-row c = omega (arith, c.at-entry.ensures.row, c.at-entry.ensures.row_rest, row_short (key_at (take c.args.place c.args.out.now) c.args.base) c.args.blocks.now c.args.at c.requires.entry)

pub plus-lens-requires-clause-family : goal.plus-lens-requires-clause-family
plus-lens-requires-clause-family c = omega (arith, c.at-entry.ensures.family, c.at-entry.ensures.family_rest, family_short (key_at (take c.args.place c.args.out.now) c.args.base) c.args.blocks.now c.args.at c.requires.entry)

pub plus-lens-requires-clause-qualifier : goal.plus-lens-requires-clause-qualifier
plus-lens-requires-clause-qualifier c = omega (arith, c.at-entry.ensures.qualifier, c.at-entry.ensures.qualifier_rest, qualifier_short (key_at (take c.args.place c.args.out.now) c.args.base) c.args.blocks.now c.args.at c.requires.entry)

pub plus-lens-requires-clause-label : goal.plus-lens-requires-clause-label
plus-lens-requires-clause-label c = omega (arith, c.at-entry.ensures.label, c.at-entry.ensures.label_rest, label_short (key_at (take c.args.place c.args.out.now) c.args.base) c.args.blocks.now c.args.at c.requires.entry)

pub overflow_sub-onward : goal.overflow_sub-onward
overflow_sub-onward c = omega (arith, counts_inside c.args.blocks.now c.args.at c.requires.entry.rest)

pub put_record-requires-clause-steps : goal.put_record-requires-clause-steps
put_record-requires-clause-steps c = λ t.
    let may = c.may_step-is_short.ensures in
    let read = c.at-entry.ensures in
    let sums = c.plus-lens.ensures in
    record {
      row = omega (arith, (may.lens t).row, sums.row, read.row, read.row_rest);
      family = omega (arith, (may.lens t).family, sums.family, read.family, read.family_rest);
      qualifier = omega (arith, (may.lens t).qualifier, sums.qualifier, read.qualifier, read.qualifier_rest);
      label = omega (arith, (may.lens t).label, sums.label, read.label, read.label_rest);
      value = omega (arith, may.value t, read.value);
      ahead = omega (arith, may.ahead t, counts_inside c.args.blocks.now c.args.at c.requires.entry.rest);
    }
