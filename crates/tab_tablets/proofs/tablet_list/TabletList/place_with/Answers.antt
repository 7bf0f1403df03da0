use Rattle.std.proofs.Common.{◌∙◌, sym, below_more}
use Rattle.tab_tablets.proofs.tablet_list.TabletList.place_with.Goals as goal

pub loop-place-preserved : goal.loop-place-preserved
loop-place-preserved c = below_more _ _ c.loop-place.invariant (sym c.has_number.ensures ∙ c.if-has_number.false)
