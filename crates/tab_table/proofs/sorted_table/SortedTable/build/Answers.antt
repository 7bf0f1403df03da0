-- What the source has left rises.
use Rattle.std.proofs.Common.{rules, ◌≡◌, ◌∙◌, List, ℕ, ap, sym, subst, length}
use Rattle.tab_iter.specs.Lists.{IsRising, HasI64Timestamps}
use Rattle.tab_iter.proofs.ListLaws.{rising_end, in_end}
use Rattle.tab_mem.specs.RowIndex.{IsRowIndex}
use Rattle.tab_table.specs.Blocks.{block_records}
use Rattle.tab_table.specs.Sizes.{encoded_size}
use Rattle.tab_table.proofs.sorted_table.SortedTable.build.Goals as goal

pub invariant_of-result : goal.invariant_of-result
invariant_of-result g c =
    let source = c.see_positioned.new.source in
    let rest = g.S.Source.rest source in
    let whole = g.S.Source.whole source in
    let suffix = g.met.S.Source.rest_is_suffix source in
    let made = c.in_ok-body.field-0 in
    let count = made.count in
    let known = c.in_ok-body.ensures.indexed.1 in
    let bytes : c.in-Ok.bytes ≡ made.body.items = search rules in
    let is : block_records c.in-Ok.bytes count ≡ rest = ap (λ (xs : List ℕ). block_records xs count) bytes ∙ c.in_ok-body.ensures.records in
    let numbers : c.shrink_to_fit-3.new.self.numbers.items ≡ made.row_index.numbers.items = search rules in
    record {
      rising = subst IsRising (sym is) (rising_end rest whole suffix (g.met.S.Source.whole_rises source));
      timestamps = subst HasI64Timestamps (sym is) (λ u h. g.met.S.Source.has_i64_timestamps source u (in_end rest whole suffix u h));
      sized = ap length bytes ∙ known.blocks.size ∙ sym (ap (λ (xs : List ℕ). encoded_size (block_records xs count)) bytes);
      indexed = subst (λ (ns : List ℕ). IsRowIndex ns (block_records c.in-Ok.bytes count)) (sym numbers) (subst (λ (xs : List ℕ). IsRowIndex made.row_index.numbers.items (block_records xs count)) (sym bytes) known.row_index);
      last = c.in_ok-last_row-in-Ok.ensures;
    }
