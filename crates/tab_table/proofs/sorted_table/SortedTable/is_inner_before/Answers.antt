-- A search from the record on stops there, or doesn't.
use Rattle.std.proofs.Common.{arith}
use Rattle.tab_table.specs.Blocks.{no_key}
use Rattle.tab_table.specs.SortedTables.{records}
use Rattle.tab_table.proofs.Ends.{not_passed, passed}
use Rattle.tab_table.proofs.Laid.{length_listed}
use Rattle.tab_table.proofs.sorted_table.SortedTable.is_inner_before.Goals as goal

pub cmp_key-requires : goal.cmp_key-requires
cmp_key-requires c = let packed = c.args.self.now.packed in omega (arith, c.requires, length_listed packed.bytes 0 no_key 0 packed.count)

pub returns-then-part-index : goal.returns-then-part-index
returns-then-part-index c = λ u.
    let part = c.narrowed-part in
    not_passed c.of-target.result.start c.args.key c.of-target.ensures (records c.args.self.now) c.args.self.now.rising c.args.index u c.requires
    (omega (arith, c.requires, c.len.ensures.len, c.saturating_add.ensures, c.min-near.ensures, part.ensures.low, part.ensures.order, part.ensures.count, c.if-part-index.true))

pub returns-then-index-part : goal.returns-then-index-part
returns-then-index-part c = λ u.
    let part = c.narrowed-part in
    passed c.of-target.result.start c.args.key c.of-target.ensures (records c.args.self.now) c.args.index u c.requires
    (omega (arith, c.requires, c.len.ensures.len, c.saturating_add.ensures, c.min-near.ensures, part.ensures.order, part.ensures.high, part.ensures.count, c.if-index-part.true))
