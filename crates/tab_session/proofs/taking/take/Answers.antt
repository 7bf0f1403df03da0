use Rattle.std.proofs.Common.{◌≡◌, sym, ◌∙◌, ap, take, drop, map, arith}
use Rattle.tab_key.specs.Records.{cell_of}
use Rattle.tab_iter.proofs.ListSourceLaws.{tail_drop}
use Rattle.tab_iter.specs.Lists.{tail}
use Rattle.tab_session.proofs.Taken.{takes_one, all_taken, all_passed}
use Rattle.tab_session.proofs.taking.take.Goals as goal
use Rattle.tab_session.proofs.taking.take.Goals.{else-loop-test, then-loop-test+in_default}

pub loop-preserved : goal.loop-preserved
loop-preserved g c = record {
  whole = c.in_ok-advance.ensures.whole ∙ c.loop.invariant.whole;
  cells = takes_one c.loop.counter (g.S.Source.rest c.args.source.now) _ _ _ _ c.loop.invariant.cells c.loop.invariant.rest c.in-Some.ensures c.in_ok-push.ensures.ok;
  rest = c.in_ok-advance.ensures.rest ∙ ap tail c.loop.invariant.rest ∙ sym (tail_drop c.loop.counter (g.S.Source.rest c.args.source.now));
}

pub returns-clause-cells : goal.returns-clause-cells
returns-clause-cells g c = elim c.loop-test.branch [
  | else-loop-test w ↦
      let all : c.loop.counter ≡ c.args.count = omega arith in
      c.loop.invariant.cells ∙ ap (λ n. take n (map cell_of (g.S.Source.rest c.args.source.now))) all
  | then-loop-test+in_default w ↦ all_taken c.loop.counter c.args.count (g.S.Source.rest c.args.source.now) _ _ (omega arith) c.loop.invariant.cells c.loop.invariant.rest (sym w.in_default.is ∙ w.top.ensures)
]

pub returns-clause-rest : goal.returns-clause-rest
returns-clause-rest g c = elim c.loop-test.branch [
  | else-loop-test w ↦
      let all : c.loop.counter ≡ c.args.count = omega arith in
      c.loop.invariant.rest ∙ ap (λ n. drop n (g.S.Source.rest c.args.source.now)) all
  | then-loop-test+in_default w ↦ all_passed c.loop.counter c.args.count (g.S.Source.rest c.args.source.now) _ (omega arith) c.loop.invariant.rest (sym w.in_default.is ∙ w.top.ensures)
]
