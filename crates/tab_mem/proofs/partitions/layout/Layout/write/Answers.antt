use Rattle.std.proofs.Common.{◌≡◌, ◌++◌, ◌∷◌, List, ℤ, subst, rules, to_z, of_z, w64}
use Rattle.std.specs.Prelude.{OnOk}
use Rattle.std.specs.List.Sorted.{IsPermutation}
use Rattle.tab_key.specs.Records.{Record}
use Rattle.tab_cells.specs.Written.{mutation_records}
use Rattle.tab_iter.specs.Bags.{flat}
use Rattle.tab_iter.specs.Lists.{HasI64Timestamps}
use Rattle.tab_mem.specs.Layouts.{written_in}
use Rattle.tab_mem.proofs.partitions.layout.Layout.write.Goals as goal

pub returns-in-Several-clause-ok : goal.returns-in-Several-clause-ok
returns-in-Several-clause-ok c =
    let m = c.args.mutation.now in
    let before = c.deref_mut.result.now in
    let after = c.write_several.new.partitions in
    let trip : to_z w64 (of_z w64 c.args.clock) ≡ c.args.clock = search rules in
    let there : flat (before.lowest ∷ before.higher.items) ≡ written_in c.args.self.now = search rules in
    subst (λ (l : List Record). OnOk c.write_several.result (IsPermutation (l ++ mutation_records c.args.seq c.args.clock m) (flat (after.lowest ∷ after.higher.items)))) there
    (subst (λ (z : ℤ). OnOk c.write_several.result (IsPermutation (flat (before.lowest ∷ before.higher.items) ++ mutation_records c.args.seq z m) (flat (after.lowest ∷ after.higher.items)))) trip c.write_several.ensures.ok)

pub returns-in-Several-clause-timestamps : goal.returns-in-Several-clause-timestamps
returns-in-Several-clause-timestamps c =
    let trip : to_z w64 (of_z w64 c.args.clock) ≡ c.args.clock = search rules in
    subst (λ (z : ℤ). OnOk c.write_several.result (HasI64Timestamps (mutation_records c.args.seq z c.args.mutation.now))) trip c.write_several.ensures.timestamps
