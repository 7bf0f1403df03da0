-- The tablets so far, and behind them what is left.
use Rattle.std.proofs.Common.{◌≡◌, ◌++◌}
use Rattle.tab_key.specs.Sorted.{sorted, IsDistinct}
use Rattle.tab_iter.specs.Bags.{flat}
use Rattle.tab_version.specs.InTurn.{in_order}
use Rattle.tab_version.specs.Sources.{records_of}
use Rattle.tests_engine.proofs.versions.cuts.cut.Given as goal

abbrev pub invariant-loop-row : goal.invariant-loop-row
invariant-loop-row l = record {
  distinct : IsDistinct (records_of l.left);
  order : flat (in_order l.tablets.items) ++ sorted (records_of l.left) ≡ sorted (records_of l.initial.left);
}
