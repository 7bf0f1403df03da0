-- What stays true while the records held back are passed.
use Rattle.std.proofs.Common.{◌≡◌, length, filter}
use Rattle.tab_iter.proofs.filtered.settle.Given as goal

abbrev pub invariant-loop-record : goal.invariant-loop-record
invariant-loop-record g l = record {
  whole : g.S.Source.whole l.source ≡ g.S.Source.whole l.initial.source;
  same : g.R.Rule.admits l.rule ≡ g.R.Rule.admits l.initial.rule;
  rest : filter (g.R.Rule.admits l.initial.rule (g.S.Source.whole l.initial.source)) (g.S.Source.rest l.source) ≡ filter (g.R.Rule.admits l.initial.rule (g.S.Source.whole l.initial.source)) (g.S.Source.rest l.initial.source);
  observed : ∥ g.R.Rule.HasObserved l.rule (g.S.Source.whole l.initial.source) (g.S.Source.rest l.source) ∥₁;
}

abbrev pub decreases-loop-record : goal.decreases-loop-record
decreases-loop-record g l = length (g.S.Source.rest l.source)
