-- One cursor less is left.
use Rattle.std.proofs.Common.{length}
use Rattle.tab_version.proofs.tablets.keep_all.Given as goal

abbrev pub decreases-loop-cursor : goal.decreases-loop-cursor
decreases-loop-cursor l = length l.rest.items
