-- The sum of the sizes so far, and the greatest number of them that fits.
use Rattle.std.proofs.Common.{◌≡◌, ◌≤◌, ◌*◌, ◌^◌, take}
use Rattle.std.specs.Prelude.{sum}
use Rattle.tab_compact.specs.Plans.{greatest}
use Rattle.tab_compact.proofs.planning.plan.Given as goal

abbrev pub invariant-loop-i : goal.invariant-loop-i
invariant-loop-i l = record {
  summed : l.sum ≡ sum (take l.i l.sizes);
  small : l.sum ≤ l.i * 2 ^ 64;
  fitting : l.fitting ≡ greatest l.sizes l.i;
}
