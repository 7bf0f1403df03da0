use Rattle.std.proofs.Common.{subst}
use Rattle.tab_mem.specs.Lists.{HasShortParts}
use Rattle.tab_mem.proofs.Parts.{part_short}
use Rattle.tab_version.proofs.clip.ClipOf+Run.cursor.Goals as goal

pub returns-clause-short : goal.returns-clause-short
returns-clause-short c = subst HasShortParts c.self.view_is (part_short c.self.inside.from c.self.inside.end c.self.inside.whole.value c.self.invariant.short)
