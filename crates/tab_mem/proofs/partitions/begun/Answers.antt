use Rattle.std.proofs.Common.{◌++◌, ◌∷◌, rules}
use Rattle.tab_mem.proofs.Apart.{none_in, none_placed}
use Rattle.tab_mem.proofs.partitions.begun.Goals as goal

pub returns-clause-none : goal.returns-clause-none
returns-clause-none c = λ i. c.in_ok-lowest.ensures i ++ none_in _ c.in_ok-higher.ensures.none i

pub returns-clause-parted : goal.returns-clause-parted
returns-clause-parted c = record {
  many = search rules;
  few = c.in_ok-lows.ensures.few;
  rising = c.in_ok-lows.ensures.rising;
  placed = none_placed _ 0 (c.in_ok-lowest.lowest ∷ _) (c.in_ok-lowest.ensures, c.in_ok-higher.ensures.none);
}
