-- The column, and then the timestamp.
use Rattle.std.proofs.Common.{◌≡◌, ◌∙◌, ◌+◌, List, ℕ, ap, subst, sym, w64, to_z, of_z, rules}
use Rattle.std.specs.List.{slice_index_or}
use Rattle.std.specs.Ordering.{int_cmp}
use Rattle.std.specs.declared.cmp.Ordering.TheVariants.{Equal}
use Rattle.tab_key.specs.Encoding.{record_at, IsAt}
use Rattle.tab_key.specs.KeyOf.{key_of}
use Rattle.tab_key.specs.Order.{column_cmp}
use Rattle.tab_table.specs.Blocks.{block_records}
use Rattle.tab_table.proofs.Walked.{entry_here, time_there, key_equal}
use Rattle.tab_table.proofs.packed.Packed.cmp_key.Goals as goal

pub timestamp_at-requires : goal.timestamp_at-requires
timestamp_at-requires c =
    let self = c.args.self.now in
    let same : c.as_slice.result.now ≡ self.bytes = search rules in
    subst (λ (xs : List ℕ). IsAt xs (c.walk-walked.result.place + 16)) (sym same) (subst (λ p. IsAt self.bytes (p + 16)) (sym c.walk-walked.ensures.here) (entry_here self.bytes self.count self.laid c.args.index c.requires))

pub returns-in-Equal : goal.returns-in-Equal
returns-in-Equal c = λ u.
    let self = c.args.self.now in
    let same : c.as_slice.result.now ≡ self.bytes = search rules in
    let place = c.walk-walked.result.place in
    let a = (slice_index_or (block_records self.bytes self.count) c.args.index u).key in
    let b = key_of c.args.key in
    let columns : column_cmp a b ≡ Equal = sym (c.column_order.ensures a b (c.walk-walked.ensures.agree u)) ∙ c.in-Equal.is in
    let trip : to_z w64 (of_z w64 c.timestamp_at.result) ≡ c.timestamp_at.result = search rules in
    c.cmp.ensures
    ∙ ap (int_cmp b.timestamp) (trip ∙ c.timestamp_at.ensures ∙ ap (λ (xs : List ℕ). (record_at xs (place + 16)).key.timestamp) same ∙ time_there self.bytes self.count self.laid c.args.index place u c.requires c.walk-walked.ensures.here)
    ∙ key_equal a b columns
