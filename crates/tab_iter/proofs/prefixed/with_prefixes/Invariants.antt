-- The sources so far.
use Rattle.std.proofs.Common.{◌≡◌, map}
use Rattle.tab_iter.proofs.prefixed.with_prefixes.Given as goal

abbrev pub invariant-loop-source : goal.invariant-loop-source
invariant-loop-source g l = record {
  whole : map (λ f. g.S.Source.whole f.source) l.kept.items ≡ map g.S.Source.whole l.yielded;
  rest : map (λ f. g.S.Source.rest f.source) l.kept.items ≡ map g.S.Source.rest l.yielded;
}
