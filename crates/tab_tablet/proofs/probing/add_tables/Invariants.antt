use Rattle.std.proofs.Common.{List, ◌++◌, take}
use Rattle.tab_key.specs.Records.{Record}
use Rattle.tab_tablet.specs.Selecting.{AreMiddles}
use Rattle.tab_tablet.proofs.Clipped.{held_in}
use Rattle.tab_tablet.proofs.probing.add_tables.Given as goal

abbrev pub invariant-loop-table : goal.invariant-loop-table
invariant-loop-table l = (us : List Record) → AreMiddles us l.initial.middles.items → AreMiddles (us ++ held_in (take l.table-index l.tables)) l.middles.items
