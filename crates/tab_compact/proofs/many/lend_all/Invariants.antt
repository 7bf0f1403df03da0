use Rattle.std.proofs.Common.{◌≡◌, map, take, Bor}
use Rattle.tab_compact.specs.Merges.{Merge}
use Rattle.tab_compact.proofs.many.lend_all.Given as goal

abbrev pub invariant-loop-job : goal.invariant-loop-job
invariant-loop-job g l = map (λ (job : Bor Merge). job.now) l.lent.items ≡ map g.J.Pending.merge (take l.job-index l.jobs)
