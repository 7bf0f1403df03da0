-- None of the tablets so far is due.
use Rattle.std.proofs.Common.{◌≡◌, ℕ, ◌<◌, false}
use Rattle.tab_tablet.specs.Due.{is_due}
use Rattle.tab_tablets.specs.Places.{tablet_at}
use Rattle.tab_tablets.proofs.tablet_list.TabletList.due.Given as goal

abbrev pub invariant-loop-place : goal.invariant-loop-place
invariant-loop-place l = (j : ℕ) → j < l.place → is_due l.kind (tablet_at l.self j) ≡ false
