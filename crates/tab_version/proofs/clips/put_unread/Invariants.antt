-- A cursor for each clip so far.
use Rattle.std.proofs.Common.{◌≡◌, ◌++◌, map, take}
use Rattle.tab_mem.specs.Lists.{part}
use Rattle.tab_mem.specs.Cursors.{whole}
use Rattle.tab_table.specs.SortedTables.{records}
use Rattle.tab_version.specs.OneOf.{one_of}
use Rattle.tab_version.specs.Sources.{Sorted}
use Rattle.tab_version.proofs.clips.put_unread.Given as goal

abbrev pub invariant-loop-clip : goal.invariant-loop-clip
invariant-loop-clip l = map (one_of whole (λ c. part c.from c.end (records c.table.now))) l.cursors.items ≡ map (one_of whole (λ c. part c.from c.end (records c.table.now))) l.initial.cursors.items ++ map (λ (t : Sorted). t.records) (take l.clip-index l.clips)
