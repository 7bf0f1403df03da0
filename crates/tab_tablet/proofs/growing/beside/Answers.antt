use Rattle.std.proofs.Common.{◌≡◌, ◌++◌, ◌∷◌, [], sym, subst, rules}
use Rattle.std.specs.List.Sorted.{IsPermutation}
use Rattle.tab_tablet.specs.MergedRunLists.{MergedRuns, held_by}
use Rattle.tab_tablet.proofs.MergedRunLaws.{with_beside}
use Rattle.tab_tablet.proofs.growing.beside.Goals as goal

pub returns : goal.returns
returns c =
    let is : c.add_shared.new.self ≡ record (c.args.merged_runs.now) { shared = c.args.merged_runs.now.shared ++ c.args.run.now ∷ [] } = search rules in
    subst (λ (b : MergedRuns). IsPermutation (c.args.run.now ++ held_by c.args.merged_runs.now) (held_by b)) (sym is) (with_beside c.args.run.now c.args.merged_runs.now)
