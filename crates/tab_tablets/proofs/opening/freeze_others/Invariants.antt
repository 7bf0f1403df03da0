use Rattle.std.proofs.Common.{ℕ, ◌<◌, get_or}
use Rattle.tab_tablet.specs.Tablets.{frozen}
use Rattle.tab_tablets.specs.Places.{IsSettled, MakesMore}
use Rattle.tab_tablets.proofs.opening.freeze_others.Given as goal

abbrev pub invariant-loop-place : goal.invariant-loop-place
invariant-loop-place l = record {
  more : MakesMore frozen l.tablet_list l.initial.made.items l.made.items;
  settled : (j : ℕ) → j < l.place-index → IsSettled frozen l.tablet_list l.made.items (get_or l.places j 0);
}
