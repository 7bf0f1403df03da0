use Rattle.std.proofs.Common.{◌≡◌, map, take, Bor}
use Rattle.tab_compact.specs.Merges.{Merge, output}
use Rattle.tab_compact.proofs.many.make_each.Given as goal

abbrev pub invariant-loop-job : goal.invariant-loop-job
invariant-loop-job l = l.tables.items ≡ map (λ (job : Bor Merge). output job.now) (take l.job-index l.jobs)
