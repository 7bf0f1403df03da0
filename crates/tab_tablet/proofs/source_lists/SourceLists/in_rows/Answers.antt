use Rattle.std.proofs.Common.{sym, subst}
use Rattle.tab_key.specs.Ranges.{is_in_range}
use Rattle.tab_key.specs.Sorted.{IsDistinct}
use Rattle.tab_version.specs.Sources.{Sources, records_of}
use Rattle.tab_tablet.specs.MergedRuns.{AreMergedRuns}
use Rattle.tab_tablet.proofs.MergedRunLaws.{merged_runs_cut}
use Rattle.tab_tablet.proofs.source_lists.SourceLists.in_rows.Goals as goal

pub invariant_of-result : goal.invariant_of-result
invariant_of-result c =
    subst (λ (s : Sources). AreMergedRuns s.runs c.in_ok-merged_runs.merged_runs) (sym c.in_ok-sources.ensures)
    (merged_runs_cut (is_in_range c.args.bounds.now) c.self.inside.sources c.self.inside.merged_runs c.in_ok-merged_runs.merged_runs c.self.invariant (subst (λ (s : Sources). IsDistinct (records_of s)) (sym c.self.view_is) c.requires) c.in_ok-merged_runs.ensures)
