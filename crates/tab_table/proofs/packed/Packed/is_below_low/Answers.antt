-- Below a low end is not above it.
use Rattle.std.proofs.Common.{◌∙◌, not, ap, sym}
use Rattle.std.specs.List.{slice_index_or}
use Rattle.std.specs.Ordering.{is_lt, is_le}
use Rattle.tab_key.specs.Bytes.{bytes_cmp}
use Rattle.tab_key.specs.Ranges.{is_above}
use Rattle.tab_table.specs.Blocks.{block_records}
use Rattle.tab_table.proofs.Reversed.{lt_not_le, le_not_lt}
use Rattle.tab_table.proofs.packed.Packed.is_below_low.Goals as goal

pub returns-in-Inclusive : goal.returns-in-Inclusive
returns-in-Inclusive c = λ u.
    let a = (slice_index_or (block_records c.args.self.now.bytes c.args.self.now.count) c.args.index u).key.row in
    c.is_lt.ensures ∙ ap is_lt (c.cmp_row.ensures u) ∙ lt_not_le a c.as_bytes.result.now ∙ ap (λ b. not (is_le (bytes_cmp b a))) c.as_bytes.ensures ∙ sym (ap (λ l. not (is_above l a)) c.in-Inclusive.is)

pub returns-in-Exclusive : goal.returns-in-Exclusive
returns-in-Exclusive c = λ u.
    let a = (slice_index_or (block_records c.args.self.now.bytes c.args.self.now.count) c.args.index u).key.row in
    c.is_le.ensures ∙ ap is_le (c.cmp_row-in-Exclusive.ensures u) ∙ le_not_lt a c.as_bytes-in-Exclusive.result.now ∙ ap (λ b. not (is_lt (bytes_cmp b a))) c.as_bytes-in-Exclusive.ensures ∙ sym (ap (λ l. not (is_above l a)) c.in-Exclusive.is)
