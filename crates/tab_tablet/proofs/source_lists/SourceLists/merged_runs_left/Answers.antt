-- All runs are left, or those that are left are their own merged runs.
use Rattle.std.proofs.Common.{◌≡◌, ◌==◌, [], true, length, sym, subst, rules}
use Rattle.std.specs.Prelude.{Some}
use Rattle.tab_version.specs.Sources.{Sources, left_by}
use Rattle.tab_tablet.specs.MergedRuns.{AreMergedRuns}
use Rattle.tab_tablet.proofs.MergedRunsLeft.{merged_runs_stay, own_merged_runs}
use Rattle.tab_tablet.proofs.source_lists.SourceLists.merged_runs_left.Goals as goal

pub returns-then-is_empty : goal.returns-then-is_empty
returns-then-is_empty c =
    let none : (length c.args.inputs.now.runs == 0) ≡ true = search rules in
    let found : left_by c.args.inputs.now c.self.inside.sources ≡ Some c.args.left.now = subst (λ (s : Sources). left_by c.args.inputs.now s ≡ Some c.args.left.now) (sym c.self.view_is) c.requires in
    subst (AreMergedRuns c.args.left.now.runs) (sym c.in_ok-merged_runs.ensures) (merged_runs_stay c.args.inputs.now c.self.inside.sources c.args.left.now c.self.inside.merged_runs none found c.self.invariant)

pub returns : goal.returns
returns c =
    let is : c.in_ok-merged_runs-2.merged_runs ≡ record { shared = c.args.left.now.runs; merged = [] } = search rules in
    subst (AreMergedRuns c.args.left.now.runs) (sym is) (own_merged_runs c.args.left.now.runs)
