use Rattle.std.proofs.Common.{◌≡◌}
use Rattle.std.specs.Prelude.{drop}
use Rattle.tab_work.specs.Ends.{end_of}
use Rattle.tab_work.proofs.ends.end_among.Given as goal

abbrev pub invariant-loop-end : goal.invariant-loop-end
invariant-loop-end l = end_of l.fn.row (drop l.end-index l.fn.ends) ≡ end_of l.fn.row l.fn.ends
