-- Each clip so far, cut.
use Rattle.std.proofs.Common.{◌≡◌, map, take}
use Rattle.std.specs.Prelude.{filter}
use Rattle.tab_key.specs.Ranges.{is_in_range}
use Rattle.tab_key.specs.Records.{Record}
use Rattle.tab_version.proofs.cutting.runs_in.Given as goal

abbrev pub invariant-loop-run : goal.invariant-loop-run
invariant-loop-run l = l.cut.items ≡ map (filter (λ (u : Record). is_in_range l.bounds u.key.row)) (take l.run-index l.runs)
