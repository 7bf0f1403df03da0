use Rattle.std.proofs.Common.{◌≡◌, ◌++◌, map, drop, vec_len}
use Rattle.tab_iter.specs.Positions.{unless}
use Rattle.tab_iter.specs.declared.list_source.ListSource.{ListSource}
use Rattle.tests_engine.proofs.layers.failing.failing_parts.Given as goal

abbrev pub invariant-loop-source : goal.invariant-loop-source
invariant-loop-source g l = record {
  whole : map (λ (s : ListSource). s.records.items) l.left.items ++ map (λ f. f.source.records.items) l.parts.items ≡ map (λ (s : ListSource). s.records.items) l.initial.left.items;
  rest : map (λ (s : ListSource). drop s.passed s.records.items) l.left.items ++ map (λ f. unless f.unpositioned (drop f.source.passed f.source.records.items)) l.parts.items ≡ map (λ (s : ListSource). drop s.passed s.records.items) l.initial.left.items;
}

abbrev pub decreases-loop-source : goal.decreases-loop-source
decreases-loop-source g l = vec_len l.left
