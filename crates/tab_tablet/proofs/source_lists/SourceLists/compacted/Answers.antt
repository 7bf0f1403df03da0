use Rattle.std.proofs.Common.{ℤ, sym, subst, to_z, of_z, w64}
use Rattle.tab_version.specs.Sources.{Sources}
use Rattle.tab_compact.specs.Merges.{captured}
use Rattle.tab_tablet.specs.MergedRuns.{AreMergedRuns}
use Rattle.tab_tablet.specs.Spared.{sources_after}
use Rattle.tab_tablet.proofs.MergedRunLaws.{merged_runs_compacted}
use Rattle.tab_tablet.proofs.source_lists.SourceLists.compacted.Goals as goal

pub invariant_of-result : goal.invariant_of-result
invariant_of-result c =
    let floor : ℤ = to_z w64 (of_z w64 c.args.floor) in
    let s : Sources = c.self.inside.sources in
    subst (λ (x : Sources). AreMergedRuns x.runs c.merged_runs_after-merged_runs.result) (sym c.in_ok-sources.ensures.sources)
    (subst (AreMergedRuns (sources_after c.args.kind (captured c.args.tablet 0 c.args.kind floor c.args.versions s) s).runs) (sym c.merged_runs_after-merged_runs.ensures)
    (merged_runs_compacted c.args.tablet c.args.kind floor c.args.versions s c.self.inside.merged_runs c.self.invariant))
