-- What is left is still to be taken out for the inputs that are left.
use Rattle.std.proofs.Common.{◌≡◌, drop}
use Rattle.tab_version.specs.Sources.{without_tables}
use Rattle.tab_version.proofs.taking.take_tables.Given as goal

abbrev pub invariant-loop-input : goal.invariant-loop-input
invariant-loop-input l = without_tables l.inputs l.initial.tables.items ≡ without_tables (drop l.input-index l.inputs) l.tables.items
