-- The tablets before this place are copied.
use Rattle.std.proofs.Common.{◌≡◌, take}
use Rattle.tab_tablets.proofs.tablets.copied_lower.Given as goal

abbrev pub invariant-loop-tablet : goal.invariant-loop-tablet
invariant-loop-tablet l = l.copies.items ≡ take l.tablet-index l.lower
