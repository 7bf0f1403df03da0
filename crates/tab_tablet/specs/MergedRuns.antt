-- For proofs. What scans read in the place of runs, and what is made before a freeze.
use Rattle.std.specs.Prelude.{◌≡◌, List, [], ◌∷◌, ◌++◌, map}
use Rattle.std.specs.List.Sorted.{IsPermutation}
use Rattle.tab_key.specs.Records.{Record}
use Rattle.tab_cells.specs.declared.compaction.Compaction.{Compaction}
use Rattle.tab_cells.specs.declared.compaction.Compaction.TheVariants.{Minor, Partial, Full}
use Rattle.tab_iter.specs.Bags.{flat}
use Rattle.tab_version.specs.Sources.{Sorted, Sources}
use Rattle.tab_tablet.specs.MergedRunLists.{MergedRuns, no_merged_runs, held_by}
use Rattle.tab_tablet.specs.Tablets.{Tablet, run_of}
use Rattle.tab_tablet.specs.declared.freeze.Freeze.{Freeze}

-- all records that are held of some tables
abbrev pub held_in : List Sorted → List Record
held_in ts = flat (map (λ (t : Sorted). t.records) ts)

-- the merged runs hold the records of the runs, each once
abbrev pub AreMergedRuns : List (List Record) → MergedRuns → Type 0
AreMergedRuns runs merged_runs = IsPermutation (flat runs) (held_by merged_runs)

-- the merged runs after a compaction: a partial one leaves the runs, the others merge them
abbrev pub merged_runs_after : Compaction → MergedRuns → MergedRuns
merged_runs_after Minor merged_runs = no_merged_runs
merged_runs_after Partial merged_runs = merged_runs
merged_runs_after Full merged_runs = no_merged_runs

-- a run of these active records, and the merged runs of the runs and this one
pub record Freezes (active : List Record) (sources : Sources) (f : Freeze) : Type 0 where
  pub run : run_of active ≡ f.run ∷ []
  pub merged_runs : AreMergedRuns (sources.runs ++ f.run ∷ []) f.merged_runs

-- the same of what was written to a tablet
abbrev pub IsFreezeOf : Tablet → Freeze → Type 0
IsFreezeOf t f = Freezes t.active t.sources f
