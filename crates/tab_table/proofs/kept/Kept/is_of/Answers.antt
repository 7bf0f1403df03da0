-- The bytes lie behind the restart, and the record there has the key of the first.
use Rattle.std.proofs.Common.{rules, ◌≡◌, ◌*◌, ◌/◌, ◌+◌, ◌≤◌, ℕ, List, sym, ◌∙◌, ap, length, arith}
use Rattle.std.specs.Cmp.{Equal-is}
use Rattle.std.specs.List.{slice_index_or, slice_range}
use Rattle.tab_key.specs.Encoding.{records_at}
use Rattle.tab_key.specs.Records.{Record}
use Rattle.tab_key.proofs.Ties.{keys_tied}
use Rattle.tab_mem.proofs.Seeking.{blank}
use Rattle.tab_table.specs.Blocks.{block_records, place_behind}
use Rattle.tab_table.specs.Windows.{written}
use Rattle.tab_table.proofs.Recalled.{recalled}
use Rattle.tab_table.proofs.kept.Kept.is_of.Goals as goal

pub restart_at-start-requires : goal.restart_at-start-requires
restart_at-start-requires c = omega arith

pub get-requires : goal.get-requires
get-requires c = c.begins_at_restart.ensures.some c.if-not-begins_at_restart.false

pub cmp_key-requires : goal.cmp_key-requires
cmp_key-requires c = omega (arith, c.begins_at_restart.ensures.some c.if-not-begins_at_restart.false, c.len.ensures, c.saturating_sub.ensures)

pub returns : goal.returns
returns c = λ t.
    let self = c.args.self.now in
    let window = self.window in
    let packed = c.args.packed.now in
    let d = window.records in
    let out = written d in
    let start = c.restart_at-start.result in
    let begins = c.if-not-begins_at_restart.false in
    let has = c.if-not-has_bytes.false in
    let some = c.begins_at_restart.ensures.some begins in
    let le : window.first + length d.places.items ≤ packed.count = omega (arith, some, c.len.ensures, c.saturating_sub.ensures) in
    let blocks : c.as_slice.result.now ≡ packed.bytes = search rules in
    let even : 16 * (window.first / 16) ≡ window.first = omega (arith, c.begins_at_restart.ensures.restart begins) in
    let here : start.place ≡ place_behind packed.bytes 0 window.first = (c.restart_at-start.ensures.is blank).there ∙ ap (place_behind packed.bytes 0) even in
    let inside : d.at ≤ length packed.bytes = omega (arith, ap length blocks, c.has_bytes.ensures.inside has) in
    let same : slice_range packed.bytes start.place d.at ≡ self.bytes = ap (λ (xs : List ℕ). slice_range xs start.place d.at) (sym blocks) ∙ c.has_bytes.ensures.bytes has in
    let keys : (u : Record) → (slice_index_or (block_records packed.bytes packed.count) window.first u).key ≡ (slice_index_or (records_at out d.places.items) 0 u).key =
    λ u. keys_tied _ _ (sym (c.cmp_key.ensures u) ∙ (Equal-is c.cmp_key.result).0 (sym c.is_eq.ensures ∙ t)) ∙ c.key.ensures ∙ ap (λ (r : Record). r.key) (c.get.ensures u) in
    recalled packed.bytes packed.count window.first packed.laid out start.place here d.places.items d.base d.at self.bytes d.within self.kept some le (c.has_bytes.ensures.end has) inside same keys
