-- What its entry shares, and the rest.
use Rattle.std.proofs.Common.{◌≡◌, ◌∙◌, ◌+◌, List, ℕ, subst, sym, ap, length, rules}
use Rattle.tab_key.specs.Encoding.{IsAt}
use Rattle.tab_key.specs.Records.{Key, Record}
use Rattle.tab_table.specs.Blocks.{no_key, entry_at, IsEntry}
use Rattle.tab_table.specs.PartBytes.{part_of}
use Rattle.tab_table.proofs.Laid.{next_base}
use Rattle.tab_table.proofs.Spotted.{entry_of}
use Rattle.tab_table.proofs.Walked.{entry_here}
use Rattle.tab_table.proofs.packed.Packed.part_len.Goals as goal

pub len_at-requires : goal.len_at-requires
len_at-requires c =
    let self = c.args.self.now in
    let same : c.as_slice.result.now ≡ self.bytes = search rules in
    subst (λ (xs : List ℕ). IsAt xs (c.find_byte-place.result.place + 16)) (sym same) (subst (λ p. IsAt self.bytes (p + 16)) (sym c.find_byte-place.ensures.here) (entry_here self.bytes self.count self.laid c.args.mine c.requires))

pub returns : goal.returns
returns c = λ u.
    let self = c.args.self.now in
    let part = c.args.part in
    let place = c.find_byte-place.result.place in
    let base = next_base self.bytes 0 no_key 0 c.args.mine in
    let same : c.as_slice.result.now ≡ self.bytes = search rules in
    let own = entry_of self.bytes self.count self.laid c.args.mine place u c.requires c.find_byte-place.ensures.here in
    let long : (b : Key) → IsEntry b self.bytes place → c.len_at.result ≡ length (part_of part (entry_at b self.bytes place).key) = subst (λ (xs : List ℕ). (b : Key) → IsEntry b xs place → c.len_at.result ≡ length (part_of part (entry_at b xs place).key)) same c.len_at.ensures in
    long base own.entry ∙ ap (λ (r : Record). length (part_of part r.key)) own.reads
