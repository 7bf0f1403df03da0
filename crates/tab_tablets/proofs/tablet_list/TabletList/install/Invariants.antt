use Rattle.std.proofs.Common.{◌≡◌, length, vec_len}
use Rattle.tab_tablets.specs.Places.{installed}
use Rattle.tab_tablets.proofs.PutIn.{Inside}
use Rattle.tab_tablets.proofs.tablet_list.TabletList.install.Given as goal

abbrev pub invariant-loop-next : goal.invariant-loop-next
invariant-loop-next l = record {
  same : installed l.made.items l.self ≡ installed l.initial.made.items l.initial.self;
  inside : Inside (length l.self) l.made.items;
}

abbrev pub decreases-loop-next : goal.decreases-loop-next
decreases-loop-next l = vec_len l.made
