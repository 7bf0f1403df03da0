use Rattle.std.proofs.Common.{◌≡◌, ◌++◌, length}
use Rattle.tab_session.proofs.InRange.{below}
use Rattle.tab_session.proofs.rows.take_rows.Given as goal

abbrev pub invariant-loop-record : goal.invariant-loop-record
invariant-loop-record g l = record {
  whole : g.S.Source.whole l.source ≡ g.S.Source.whole l.initial.source;
  cells : l.cells ++ below l.rows.high (g.S.Source.rest l.source) ≡ below l.rows.high (g.S.Source.rest l.initial.source);
}

abbrev pub decreases-loop-record : goal.decreases-loop-record
decreases-loop-record g l = length (g.S.Source.rest l.source)
