use Rattle.std.proofs.Common.{◌≡◌, take}
use Rattle.tab_inspect.specs.Facts.{tally_of}
use Rattle.tab_inspect.proofs.tally.RecordCounts.of.Given as goal

abbrev pub invariant-loop-index : goal.invariant-loop-index
invariant-loop-index l = l.tally ≡ tally_of (take l.index l.records)
