use Rattle.std.proofs.Common.{◌∙◌, sym, ap, ◌++◌, arith}
use Rattle.std.specs.Prelude.{map}
use Rattle.tab_iter.specs.Bags.{flat}
use Rattle.tab_tablets.specs.Places.{tablet_at}
use Rattle.tab_tablets.proofs.Bare.{reads_next}
use Rattle.tab_tablets.proofs.Ranges.{in_its_order, part_sorted, range_none}
use Rattle.tab_tablets.proofs.opening.clips_with.Goals as goal

pub loop-place-init : goal.loop-place-init
loop-place-init c = ap (λ cs. flat (map in_its_order cs)) c.new-clips.ensures.items ∙ sym (ap flat (range_none c.args.bounds.now c.args.tablet_list.now c.args.from))

pub loop-place-preserved : goal.loop-place-preserved
loop-place-preserved c =
    c.in_ok-add_clips_beside.ensures
    ∙ ap (λ l. l ++ part_sorted c.args.bounds.now (tablet_at c.args.tablet_list.now c.loop-place.place)) c.loop-place.invariant
    ∙ sym (reads_next c.args.bounds.now c.args.tablet_list.now c.args.from c.loop-place.place (omega arith) (omega arith))
