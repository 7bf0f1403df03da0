-- The record at the restart, read on what it shares.
use Rattle.std.proofs.Common.{◌≡◌, ◌*◌, List, ℕ, subst, ap, length, arith, rules}
use Rattle.tab_key.specs.KeyOf.{key_of}
use Rattle.tab_table.proofs.Inside.{counts_inside}
use Rattle.tab_table.proofs.Walked.{Begins, Steps, walk_begun}
use Rattle.tab_table.proofs.packed.Packed.first_of.Goals as goal

pub of_shares-shared-requires-clause-head : goal.of_shares-shared-requires-clause-head
of_shares-shared-requires-clause-head c =
    let same : c.as_slice-blocks.result.now ≡ c.args.self.now.bytes = search rules in
    omega (arith, counts_inside c.args.self.now.bytes c.restart_at-start.result.place c.restart_at-start.ensures.rest, ap length same)

pub returns-clause-walked : goal.returns-clause-walked
returns-clause-walked c =
    let self = c.args.self.now in
    let r = c.restart_at-start.result in
    let sought = key_of c.args.sought in
    let a = c.of_shares-shared.result in
    let blocks : c.as_slice-blocks.result.now ≡ self.bytes = search rules in
    let shares : c.deref.result.now ≡ self.restarts.shares.items = search rules in
    let begins : Begins self.bytes self.restarts.shares.items r sought a = subst (λ (xs : List ℕ). Begins xs self.restarts.shares.items r sought a) blocks (subst (λ (ss : List ℕ). Begins c.as_slice-blocks.result.now ss r sought a) shares c.of_shares-shared.ensures.agree) in
    let steps : Steps self.bytes r.place sought a c.onward.result = subst (λ (xs : List ℕ). Steps xs r.place sought a c.onward.result) blocks c.onward.ensures.agree in
    walk_begun self.bytes self.count self.laid self.restarts.shares.items (16 * c.args.restart) r a c.onward.result sought c.requires c.restart_at-start.ensures.is begins steps
