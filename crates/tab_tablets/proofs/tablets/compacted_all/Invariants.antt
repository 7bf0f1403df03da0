use Rattle.std.proofs.Common.{◌≡◌, ℕ, ◌<◌, true}
use Rattle.tab_tablet.specs.Tablets.{compacted}
use Rattle.tab_tablets.specs.Places.{AreMade, is_made}
use Rattle.tab_tablets.proofs.tablets.compacted_all.Given as goal

abbrev pub invariant-loop-place : goal.invariant-loop-place
invariant-loop-place l = record {
  made : AreMade (compacted l.kind l.floor l.versions) l.tablet_list l.made.items;
  all : (k : ℕ) → k < l.place → is_made l.made.items k ≡ true;
}
