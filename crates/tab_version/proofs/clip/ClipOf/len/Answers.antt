use Rattle.std.proofs.Common.{subst}
use Rattle.tab_iter.specs.Lists.{IsRising, HasI64Timestamps}
use Rattle.tab_mem.specs.Lists.{HasShortParts}
use Rattle.tab_mem.proofs.Parts.{part_rises, part_timestamps, part_short}
use Rattle.tab_version.proofs.clip.ClipOf.len.Goals as goal

pub returns-clause-rising : goal.returns-clause-rising
returns-clause-rising g c = subst IsRising c.self.view_is (part_rises c.self.inside.from c.self.inside.end (g.W.FrozenRecords.listed c.self.inside.whole.value) c.self.invariant.rising)

pub returns-clause-timestamps : goal.returns-clause-timestamps
returns-clause-timestamps g c = subst HasI64Timestamps c.self.view_is (part_timestamps c.self.inside.from c.self.inside.end (g.W.FrozenRecords.listed c.self.inside.whole.value) c.self.invariant.timestamps)

pub returns-clause-short : goal.returns-clause-short
returns-clause-short g c = subst HasShortParts c.self.view_is (part_short c.self.inside.from c.self.inside.end (g.W.FrozenRecords.listed c.self.inside.whole.value) c.self.invariant.short)
