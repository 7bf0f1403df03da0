use Rattle.std.proofs.Common.{◌≡◌, take, Some}
use Rattle.tab_label.specs.Machine.{start, run}
use Rattle.tab_label.specs.ParserViews.{state_of}
use Rattle.tab_label.proofs.parser.parse.Given as goal

abbrev pub invariant-loop-i : goal.invariant-loop-i
invariant-loop-i l = run (Some start) (take l.i l.text) ≡ Some (state_of l.state)
