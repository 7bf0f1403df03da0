-- Those so far.
use Rattle.std.proofs.Common.{map, take}
use Rattle.tab_iter.specs.Bags.{flat}
use Rattle.tab_iter.specs.Lists.{HasI64Timestamps}
use Rattle.tab_mem.specs.Lists.{HasShortParts}
use Rattle.tab_version.proofs.has_records.read_all.Given as goal

abbrev pub invariant-loop-one : goal.invariant-loop-one
invariant-loop-one g l = record {
  timestamps : HasI64Timestamps (flat (map g.H.HasRecords.held (take l.one-index l.several)));
  short : HasShortParts (flat (map g.H.HasRecords.held (take l.one-index l.several)));
}
