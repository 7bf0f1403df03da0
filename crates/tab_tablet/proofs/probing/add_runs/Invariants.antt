use Rattle.std.proofs.Common.{List, ◌++◌, take}
use Rattle.tab_key.specs.Records.{Record}
use Rattle.tab_iter.specs.Bags.{flat}
use Rattle.tab_tablet.specs.Selecting.{AreMiddles}
use Rattle.tab_tablet.proofs.probing.add_runs.Given as goal

abbrev pub invariant-loop-run : goal.invariant-loop-run
invariant-loop-run l = (us : List Record) → AreMiddles us l.initial.middles.items → AreMiddles (us ++ flat (take l.run-index l.runs)) l.middles.items
