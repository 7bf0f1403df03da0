-- The merged runs are those of the runs that are left.
use Rattle.std.proofs.Common.{sym, subst}
use Rattle.tab_version.specs.Sources.{Sources}
use Rattle.tab_tablet.specs.MergedRuns.{AreMergedRuns}
use Rattle.tab_tablet.proofs.source_lists.SourceLists.installed.Goals as goal

pub invariant_of-result : goal.invariant_of-result
invariant_of-result c = subst (λ (s : Sources). AreMergedRuns s.runs c.in_ok-merged_runs.merged_runs) (sym c.in_ok-add_table.ensures.ok) c.in_ok-merged_runs.ensures
