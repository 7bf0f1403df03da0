-- The byte of the record behind one.
use Rattle.std.proofs.Common.{◌≡◌, ◌∙◌, List, ℕ, suc, subst, sym, ap, length, arith, rules}
use Rattle.tab_table.specs.Blocks.{entry_end}
use Rattle.tab_table.specs.PartBytes.{IsFound}
use Rattle.tab_table.proofs.Inside.{counts_inside}
use Rattle.tab_table.proofs.Spotted.{Reads, found_on}
use Rattle.tab_table.proofs.packed.Packed.next_byte.Goals as goal

pub overflow_add-found : goal.overflow_add-found
overflow_add-found c =
    let same : c.as_slice-blocks.result.now ≡ c.args.self.now.bytes = search rules in
    omega (arith, counts_inside c.args.self.now.bytes c.args.found.place c.requires.here, ap length same)

pub returns : goal.returns
returns c = λ n lt w.
    let self = c.args.self.now in
    let place = c.args.found.place in
    let part = c.args.part in
    let i = c.args.index in
    let a = c.args.found.byte in
    let b = c.byte_on.result in
    let same : c.as_slice-blocks.result.now ≡ self.bytes = search rules in
    let end : c.end_of-place.result ≡ entry_end self.bytes place = c.end_of-place.ensures ∙ ap (λ xs. entry_end xs place) same in
    let steps : Reads self.bytes (entry_end self.bytes place) part i a b = subst (λ p. Reads self.bytes p part i a b) end (subst (λ (xs : List ℕ). Reads xs c.end_of-place.result part i a b) same c.byte_on.ensures) in
    subst (λ p. IsFound self.bytes self.count b p (suc n) part i) (sym end) (found_on self.bytes self.count self.laid n place part i a b lt w steps)
