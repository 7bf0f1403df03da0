-- The last record's row is the one at the end.
use Rattle.std.proofs.Common.{◌≡◌, ℕ, ◌∙◌, ap, sym, subst, IfOk, ◌-◌, ◌+◌, length, arith}
use Rattle.tab_mem.proofs.Seeking.{blank}
use Rattle.tab_table.specs.Blocks.{no_key, block_records}
use Rattle.tab_table.specs.LastRows.{row_at_end}
use Rattle.tab_table.proofs.Ends.{row_at_last, no_last}
use Rattle.tab_table.proofs.Laid.{length_listed}
use Rattle.tab_table.proofs.packed.Packed.last_row.Goals as goal

pub returns-then-self-eq0 : goal.returns-then-self-eq0
returns-then-self-eq0 c =
    let none : c.args.self.now.count ≡ 0 = omega (arith, c.if-self-eq0.true) in
    c.new.ensures ∙ sym no_last ∙ ap (λ (n : ℕ). row_at_end (block_records c.args.self.now.bytes n)) (sym none)

pub returns : goal.returns
returns c =
    let packed = c.args.self.now in
    let rs = block_records packed.bytes packed.count in
    let last : packed.count - 1 + 1 ≡ length rs = omega (arith, length_listed packed.bytes 0 no_key 0 packed.count) in
    subst (λ w. IfOk c.row_of.result (λ row. row ≡ w)) (row_at_last rs (packed.count - 1) blank last) (c.row_of.ensures blank)
