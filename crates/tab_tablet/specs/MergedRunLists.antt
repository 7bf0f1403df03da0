-- For proofs. The merged runs that scans read in the place of runs.
use Rattle.std.specs.Prelude.{List, [], ◌++◌}
use Rattle.tab_key.specs.Records.{Record}
use Rattle.tab_iter.specs.Bags.{flat}

-- shares of runs as they are, and the runs that small ones were merged into
pub record MergedRuns : Type 0 where
  pub shared : List (List Record)
  pub merged : List (List Record)

-- no merged run
abbrev pub no_merged_runs : MergedRuns
no_merged_runs = record { shared = []; merged = [] }

-- all records that they hold
abbrev pub held_by : MergedRuns → List Record
held_by b = flat b.shared ++ flat b.merged
