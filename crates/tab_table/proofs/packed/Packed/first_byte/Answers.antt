-- The byte of the record at the restart, read on what it shares.
use Rattle.std.proofs.Common.{◌≡◌, ◌*◌, List, ℕ, subst, ap, length, arith, rules}
use Rattle.tab_table.proofs.Inside.{counts_inside}
use Rattle.tab_table.proofs.Spotted.{Shares, Reads, found_begun}
use Rattle.tab_table.proofs.packed.Packed.first_byte.Goals as goal

pub shared_by-requires-clause-head : goal.shared_by-requires-clause-head
shared_by-requires-clause-head c =
    let same : c.as_slice-blocks.result.now ≡ c.args.self.now.bytes = search rules in
    omega (arith, counts_inside c.args.self.now.bytes c.restart_at-start.result.place c.restart_at-start.ensures.rest, ap length same)

pub returns : goal.returns
returns c =
    let self = c.args.self.now in
    let r = c.restart_at-start.result in
    let part = c.args.part in
    let i = c.args.index in
    let slice = c.shared_by.result.now in
    let a = c.byte_at-shared.result in
    let b = c.byte_on.result in
    let blocks : c.as_slice-blocks.result.now ≡ self.bytes = search rules in
    let shares : c.deref.result.now ≡ self.restarts.shares.items = search rules in
    let begins : Shares self.bytes self.restarts.shares.items r part slice = subst (λ (xs : List ℕ). Shares xs self.restarts.shares.items r part slice) blocks (subst (λ (ss : List ℕ). Shares c.as_slice-blocks.result.now ss r part slice) shares c.shared_by.ensures) in
    let steps : Reads self.bytes r.place part i a b = subst (λ (xs : List ℕ). Reads xs r.place part i a b) blocks c.byte_on.ensures in
    found_begun self.bytes self.count self.laid self.restarts.shares.items (16 * c.args.restart) r part i a b slice c.requires c.restart_at-start.ensures.is begins c.byte_at-shared.ensures steps
