-- All steps rise, or one doesn't.
use Rattle.std.proofs.Common.{arith, ap, refl, sym, ◌∙◌}
use mathlib.Core.Bool.{true≢false}
use Rattle.std.specs.Ordering.{is_lt}
use Rattle.tab_iter.proofs.Steps.{steps_rise, step_down}
use Rattle.tab_iter.proofs.list_source.is_rising.Goals as goal

pub returns-then-not-is_lt : goal.returns-then-not-is_lt
returns-then-not-is_lt c = (λ f. absurd (true≢false (sym f)), λ up. absurd (step_down c.args.records.now c.loop-i.i c.index-records-i.result c.index-records-i-in-loop-i.result (omega arith) (omega arith) c.index-records-i.is c.index-records-i-in-loop-i.is (sym (ap is_lt c.cmp.ensures) ∙ sym c.is_lt.ensures ∙ c.if-not-is_lt.true) up))

pub returns : goal.returns
returns c = (λ t. steps_rise c.args.records.now (λ j lt more. c.loop-i.invariant j (omega arith) more), λ up. refl)
