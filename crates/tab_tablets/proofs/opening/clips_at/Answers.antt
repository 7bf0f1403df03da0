use Rattle.std.proofs.Common.{◌∙◌, sym}
use Rattle.tab_tablet.proofs.Compacted.{none_waits}
use Rattle.tab_tablets.proofs.opening.clips_at.Goals as goal

pub clips-requires : goal.clips-requires
clips-requires c = none_waits c.tablet-tablet.result.now (sym c.is_frozen.ensures.frozen ∙ c.if-is_frozen.true)
