use Rattle.std.proofs.Common.{◌∙◌, subst, sym, ap, ◌++◌, arith}
use Rattle.std.specs.Prelude.{map}
use Rattle.tab_iter.specs.Bags.{flat}
use Rattle.tab_tablet.specs.Tablets.{frozen}
use Rattle.tab_tablets.specs.Places.{AreMade, tablet_at}
use Rattle.tab_tablets.proofs.PutIn.{settled_next}
use Rattle.tab_tablets.proofs.Ranges.{in_its_order, part_sorted, range_none}
use Rattle.tab_tablets.proofs.Bare.{reads_next}
use Rattle.tab_tablets.proofs.opening.clips_in.Goals as goal

pub loop-place-init : goal.loop-place-init
loop-place-init c = record {
  clips = ap (λ cs. flat (map in_its_order cs)) c.new-clips.ensures.items ∙ sym (ap flat (range_none c.args.bounds.now c.args.tablet_list.now c.args.from));
  made = subst (AreMade frozen c.args.tablet_list.now) (sym c.requires.none) tt;
  settled = λ k ge lt. absurd (omega arith);
}

pub loop-place-preserved : goal.loop-place-preserved
loop-place-preserved c = record {
  clips = c.in_ok-add_clips_at.ensures.clips ∙ ap (λ l. l ++ part_sorted c.args.bounds.now (tablet_at c.args.tablet_list.now c.loop-place.place)) c.loop-place.invariant.clips ∙ sym (reads_next c.args.bounds.now c.args.tablet_list.now c.args.from c.loop-place.place (omega arith) (omega arith));
  made = c.in_ok-add_clips_at.ensures.more.made c.loop-place.invariant.made;
  settled = settled_next frozen c.args.tablet_list.now c.loop-place.made.items c.add_clips_at.new.made.items c.args.from c.loop-place.place c.in_ok-add_clips_at.ensures.more c.loop-place.invariant.settled c.in_ok-add_clips_at.ensures.settled;
}
