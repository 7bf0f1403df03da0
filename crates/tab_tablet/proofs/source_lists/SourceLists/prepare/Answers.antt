use Rattle.std.proofs.Common.{◌≡◌, ◌++◌, sym, subst, rules}
use Rattle.tab_key.specs.Sorted.{sorted, IsDistinct}
use Rattle.tab_version.specs.Sources.{Sources, records_of}
use Rattle.tab_tablet.specs.MergedRuns.{Freezes}
use Rattle.tab_tablet.proofs.MergedRunLaws.{distinct_with, freeze_is}
use Rattle.tab_tablet.proofs.source_lists.SourceLists.prepare.Goals as goal

pub merged_runs_with-requires : goal.merged_runs_with-requires
merged_runs_with-requires c =
    let is : c.whole-run.result ≡ sorted c.args.active.now = search rules in
    distinct_with c.args.active.now c.whole-run.result c.self.inside.sources c.self.inside.merged_runs (subst (λ (s : Sources). IsDistinct (c.args.active.now ++ records_of s)) (sym c.self.view_is) c.requires.distinct) is c.self.invariant

pub returns : goal.returns
returns c =
    let is : c.whole-run.result ≡ sorted c.args.active.now = search rules in
    subst (λ (s : Sources). Freezes c.args.active.now s (record { run = c.whole-run.result; merged_runs = c.in_ok-merged_runs.merged_runs })) c.self.view_is
    (freeze_is c.args.active.now c.self.inside.sources c.self.inside.merged_runs (record { run = c.whole-run.result; merged_runs = c.in_ok-merged_runs.merged_runs }) c.requires.some is c.self.invariant c.in_ok-merged_runs.ensures)
