-- What lies behind the counts of its entry.
use Rattle.std.proofs.Common.{◌≡◌, ◌∙◌, ◌+◌, List, ℕ, subst, sym, ap, length, arith, rules}
use Rattle.std.specs.List.{slice_index_or}
use Rattle.tab_key.specs.Encoding.{record_at, IsAt}
use Rattle.tab_key.specs.Records.{Record}
use Rattle.tab_table.specs.Blocks.{block_records}
use Rattle.tab_table.specs.PartBytes.{IsRestOf}
use Rattle.tab_table.proofs.Inside.{counts_inside}
use Rattle.tab_table.proofs.Spotted.{rest_there}
use Rattle.tab_table.proofs.Walked.{entry_here}
use Rattle.tab_table.proofs.packed.Packed.rest_of.Goals as goal

pub at-requires : goal.at-requires
at-requires c =
    let self = c.args.self.now in
    let same : c.as_slice.result.now ≡ self.bytes = search rules in
    subst (λ (xs : List ℕ). IsAt xs (c.find_byte-found.result.place + 16)) (sym same) (subst (λ p. IsAt self.bytes (p + 16)) (sym c.find_byte-found.ensures.here) (entry_here self.bytes self.count self.laid c.args.mine c.requires))

pub overflow_add-found : goal.overflow_add-found
overflow_add-found c =
    let self = c.args.self.now in
    let same : c.as_slice.result.now ≡ self.bytes = search rules in
    let there : IsAt self.bytes (c.find_byte-found.result.place + 16) = subst (λ p. IsAt self.bytes (p + 16)) (sym c.find_byte-found.ensures.here) (entry_here self.bytes self.count self.laid c.args.mine c.requires) in
    omega (arith, counts_inside self.bytes c.find_byte-found.result.place there, ap length same)

pub returns : goal.returns
returns c = λ u.
    let self = c.args.self.now in
    let place = c.find_byte-found.result.place in
    let same : c.as_slice.result.now ≡ self.bytes = search rules in
    let read : record_at self.bytes (place + 16) ≡ c.at.result = sym (c.at.ensures ∙ ap (λ (xs : List ℕ). record_at xs (place + 16)) same) in
    subst (λ (r : Record). IsRestOf r (slice_index_or (block_records self.bytes self.count) c.args.mine u)) read (rest_there self.bytes self.count self.laid c.args.mine place u c.requires c.find_byte-found.ensures.here)
