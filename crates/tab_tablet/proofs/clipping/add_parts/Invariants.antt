use Rattle.std.proofs.Common.{◌≡◌, ◌++◌, take}
use Rattle.std.specs.Prelude.{filter}
use Rattle.tab_key.specs.Ranges.{is_in_range}
use Rattle.tab_iter.specs.Bags.{flat}
use Rattle.tab_tablet.proofs.clipping.add_parts.Given as goal

abbrev pub invariant-loop-run : goal.invariant-loop-run
invariant-loop-run l = flat l.clips.items ≡ flat l.initial.clips.items ++ filter (λ u. is_in_range l.bounds u.key.row) (flat (take l.run-index l.runs))
