-- The order of the sources put in so far.
use Rattle.std.proofs.Common.{◌≡◌, ℕ, ◌<◌, ◌≤◌, false, map}
use Rattle.std.specs.Prelude.{is_some}
use Rattle.tab_iter.specs.Bags.{first_in, IsOutside, IsDescending}
use Rattle.tab_iter.proofs.source_order.put_all.Given as goal

abbrev pub invariant-loop-i : goal.invariant-loop-i
invariant-loop-i g l = record {
  descending : IsDescending (map g.S.Source.rest l.sources) l.order.items;
  ahead : (k : ℕ) → l.i ≤ k → IsOutside l.order.items k;
  covers : (k : ℕ) → k < l.i → IsOutside l.order.items k → is_some (first_in (map g.S.Source.rest l.sources) k) ≡ false;
}
