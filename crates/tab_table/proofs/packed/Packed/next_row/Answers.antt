-- The row of the record behind one.
use Rattle.std.proofs.Common.{◌≡◌, ◌∙◌, List, ℕ, suc, subst, sym, ap, length, arith, rules}
use Rattle.tab_table.specs.Blocks.{entry_end}
use Rattle.tab_table.specs.PartBytes.{IsRowFound}
use Rattle.tab_table.proofs.Inside.{counts_inside}
use Rattle.tab_table.proofs.RowsRead.{ReadsRow, row_on}
use Rattle.tab_table.proofs.packed.Packed.next_row.Goals as goal

pub overflow_add-place : goal.overflow_add-place
overflow_add-place c =
    let same : c.as_slice-blocks.result.now ≡ c.args.self.now.bytes = search rules in
    omega (arith, counts_inside c.args.self.now.bytes c.args.place c.requires.here, ap length same)

pub returns : goal.returns
returns c = λ n lt w.
    let self = c.args.self.now in
    let place = c.args.place in
    let a = c.args.row.now.items in
    let b = c.read_row.new.row.items in
    let same : c.as_slice-blocks.result.now ≡ self.bytes = search rules in
    let end : c.end_of-next.result ≡ entry_end self.bytes place = c.end_of-next.ensures ∙ ap (λ xs. entry_end xs place) same in
    let steps : ReadsRow self.bytes (entry_end self.bytes place) a b = subst (λ p. ReadsRow self.bytes p a b) end (subst (λ (xs : List ℕ). ReadsRow xs c.end_of-next.result a b) same c.in_ok-read_row.ensures) in
    subst (λ p. IsRowFound self.bytes self.count b p (suc n)) (sym end) (row_on self.bytes self.count self.laid n place a b lt w steps)
