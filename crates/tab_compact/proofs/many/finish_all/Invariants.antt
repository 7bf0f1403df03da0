use Rattle.std.proofs.Common.{◌≡◌, ◌+◌, ◌≤◌, List, ◌++◌, map, reverse}
use Rattle.std.specs.Prelude.{vec_len, vec_capacity}
use Rattle.std.specs.List.{AllZip}
use Rattle.tab_compact.specs.Merges.{output}
use Rattle.tab_compact.proofs.many.finish_all.Given as goal

-- once the jobs that are left are finished, all are
abbrev pub invariant-loop-job : goal.invariant-loop-job
invariant-loop-job g l = record {
  made : l.tables.items ≡ map (λ job. output (g.J.Pending.merge job)) l.jobs.items;
  room : vec_len l.done + vec_len l.jobs ≤ vec_capacity l.done;
  done : (ds : List _) → AllZip g.J.Pending.finishes l.jobs.items ds → AllZip g.J.Pending.finishes l.fn.jobs.items (ds ++ reverse l.done.items);
}

abbrev pub decreases-loop-job : goal.decreases-loop-job
decreases-loop-job g l = vec_len l.jobs
