-- The tables before have no such tablet.
use Rattle.std.proofs.Common.{◌≡◌, map}
use Rattle.tab_store.specs.Due.{target_of}
use Rattle.tab_store.specs.Tables.{named_table}
use Rattle.tab_store.proofs.tables.Tables.target.Given as goal

abbrev pub invariant-loop-name : goal.invariant-loop-name
invariant-loop-name l = target_of l.due (map named_table l.name-iterator) ≡ target_of l.due l.self
