-- What is left is still to be taken out for the inputs that are left.
use Rattle.std.proofs.Common.{◌≡◌, drop}
use Rattle.tab_version.specs.Sources.{without_runs}
use Rattle.tab_version.proofs.taking.take_runs.Given as goal

abbrev pub invariant-loop-input : goal.invariant-loop-input
invariant-loop-input l = without_runs l.inputs l.initial.runs.items ≡ without_runs (drop l.input-index l.inputs) l.runs.items
