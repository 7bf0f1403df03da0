-- The entry behind the last record lies there.
use Rattle.std.proofs.Common.{rules, ◌≡◌, ◌<◌, ◌+◌, List, ℕ, subst, sym, length, take, arith}
use Rattle.tab_mem.proofs.Seeking.{blank}
use Rattle.tab_table.specs.Blocks.{IsEntry}
use Rattle.tab_table.specs.Decoding.{key_at}
use Rattle.tab_table.proofs.window.Window.some_more.Goals as goal

pub has_room-requires-clause-entry : goal.has_room-requires-clause-entry
has_room-requires-clause-entry c =
    let self = c.loop-place.self in
    let inv = c.loop-place.invariant in
    let ready = inv.window inv.known in
    let blocks : c.as_slice-blocks.result.now ≡ c.args.packed.now.bytes = search rules in
    let lt : self.first + length self.records.places.items < c.args.packed.now.count = omega (arith, inv.here, c.loop-place-test.true, c.min-end.ensures) in
    subst (λ (xs : List ℕ). IsEntry (key_at (take self.records.end self.records.body.items) self.records.base) xs self.records.at) (sym blocks) (ready.decoded.next blank lt).entry

pub write_next-requires-clause-entry : goal.write_next-requires-clause-entry
write_next-requires-clause-entry c =
    let self = c.loop-place.self in
    let inv = c.loop-place.invariant in
    let ready = inv.window inv.known in
    let blocks : c.as_slice-blocks.result.now ≡ c.args.packed.now.bytes = search rules in
    let lt : self.first + length self.records.places.items < c.args.packed.now.count = omega (arith, inv.here, c.loop-place-test.true, c.min-end.ensures) in
    subst (λ (xs : List ℕ). IsEntry (key_at (take self.records.end self.records.body.items) self.records.base) xs self.records.at) (sym blocks) (ready.decoded.next blank lt).entry
