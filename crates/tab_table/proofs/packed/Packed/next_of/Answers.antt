-- The record behind one, read on the key of that one.
use Rattle.std.proofs.Common.{◌≡◌, ◌∙◌, suc, subst, sym, ap, length, arith, rules}
use Rattle.tab_key.specs.KeyOf.{key_of}
use Rattle.tab_table.specs.Agreements.{IsWalked}
use Rattle.tab_table.specs.Blocks.{entry_end}
use Rattle.tab_table.proofs.Inside.{counts_inside}
use Rattle.tab_table.proofs.Walked.{Steps, walk_on}
use Rattle.tab_table.proofs.packed.Packed.next_of.Goals as goal

pub overflow_add-walked : goal.overflow_add-walked
overflow_add-walked c =
    let same : c.as_slice-blocks.result.now ≡ c.args.self.now.bytes = search rules in
    omega (arith, counts_inside c.args.self.now.bytes c.args.walked.place c.requires.here, ap length same)

pub returns-clause-walked : goal.returns-clause-walked
returns-clause-walked c = λ index lt w.
    let self = c.args.self.now in
    let same : c.as_slice-blocks.result.now ≡ self.bytes = search rules in
    let place = c.args.walked.place in
    let sought = key_of c.args.sought in
    let end : c.end_of-place.result ≡ entry_end self.bytes place = c.end_of-place.ensures ∙ ap (λ xs. entry_end xs place) same in
    let steps : Steps self.bytes (entry_end self.bytes place) sought c.args.walked.agreement c.onward.result = subst (λ p. Steps self.bytes p sought c.args.walked.agreement c.onward.result) end (subst (λ xs. Steps xs c.end_of-place.result sought c.args.walked.agreement c.onward.result) same c.onward.ensures.agree) in
    subst (λ p. IsWalked self.bytes self.count c.onward.result p (suc index) sought) (sym end)
    (walk_on self.bytes self.count self.laid index place c.args.walked.agreement c.onward.result sought lt w steps)
