use Rattle.std.proofs.Common.{◌≡◌, map, take, drop}
use Rattle.tab_key.specs.Records.{cell_of}
use Rattle.tab_session.proofs.taking.take.Given as goal

abbrev pub invariant-loop : goal.invariant-loop
invariant-loop g l = record {
  whole : g.S.Source.whole l.source ≡ g.S.Source.whole l.initial.source;
  cells : l.cells ≡ take l.counter (map cell_of (g.S.Source.rest l.initial.source));
  rest : g.S.Source.rest l.source ≡ drop l.counter (g.S.Source.rest l.initial.source);
}
