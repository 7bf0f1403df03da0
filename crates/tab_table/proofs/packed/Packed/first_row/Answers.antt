-- The row of the record at the restart, read on what it shares.
use Rattle.std.proofs.Common.{◌≡◌, ◌∙◌, ◌*◌, List, ℕ, subst, ap, length, arith, rules}
use Rattle.tab_table.specs.declared.part_bytes.KeyPart.TheVariants.{Row}
use Rattle.tab_table.proofs.Inside.{counts_inside}
use Rattle.tab_table.proofs.RowsRead.{ReadsRow, row_begun}
use Rattle.tab_table.proofs.Spotted.{Shares}
use Rattle.tab_table.proofs.packed.Packed.first_row.Goals as goal

pub shared_by-shared-requires-clause-head : goal.shared_by-shared-requires-clause-head
shared_by-shared-requires-clause-head c =
    let same : c.as_slice-blocks.result.now ≡ c.args.self.now.bytes = search rules in
    omega (arith, counts_inside c.args.self.now.bytes c.restart_at-start.result.place c.restart_at-start.ensures.rest, ap length same)

pub returns : goal.returns
returns c =
    let self = c.args.self.now in
    let r = c.restart_at-start.result in
    let slice = c.shared_by-shared.result.now in
    let a = c.in_ok-row.row.items in
    let b = c.read_row.new.row.items in
    let blocks : c.as_slice-blocks.result.now ≡ self.bytes = search rules in
    let shares : c.deref.result.now ≡ self.restarts.shares.items = search rules in
    let begins : Shares self.bytes self.restarts.shares.items r Row slice = subst (λ (xs : List ℕ). Shares xs self.restarts.shares.items r Row slice) blocks (subst (λ (ss : List ℕ). Shares c.as_slice-blocks.result.now ss r Row slice) shares c.shared_by-shared.ensures) in
    let copied : a ≡ slice = c.in_ok-row.ensures.items in
    let steps : ReadsRow self.bytes r.place a b = subst (λ (xs : List ℕ). ReadsRow xs r.place a b) blocks c.in_ok-read_row.ensures in
    row_begun self.bytes self.count self.laid self.restarts.shares.items (16 * c.args.restart) r a b c.requires c.restart_at-start.ensures.is (λ k h. copied ∙ begins k h) steps
