use Rattle.std.proofs.Common.{◌≡◌, ℕ, take, length, sym, subst, ◌∙◌, Some, refl, arith}
use Rattle.tab_label.specs.Judging.{start, run}
use Rattle.tab_label.specs.JudgeViews.{levels_held, judgement_at}
use Rattle.tab_label.proofs.Judged.{judge_stops, judge_ends, judge_goes_on}
use Rattle.tab_label.proofs.judgement.judge.Goals as goal

pub loop-i-init : goal.loop-i-init
unfolding run
loop-i-init c = (rw c.new-below.ensures refl, tt)

pub returns-in-None : goal.returns-in-None
returns-in-None c = sym (judge_stops c.args.auths.now c.args.text.now (λ k. omega (arith, c.type_inv.text k)) c.loop-i.i (judgement_at c.args.text.now c.loop-i.i (levels_held c.loop-i.below) c.loop-i.innermost) c.loop-i-test.true c.loop-i.invariant.0 c.in-None.ensures)

pub loop-i-preserved : goal.loop-i-preserved
loop-i-preserved c = (judge_goes_on c.args.auths.now c.args.text.now c.loop-i.i (judgement_at c.args.text.now c.loop-i.i (levels_held c.loop-i.below) c.loop-i.innermost) c.loop-i-test.true c.loop-i.invariant.0 ∙ c.in-Some.ensures.0, c.in-Some.ensures.1)

pub returns : goal.returns
returns c =
    let text = c.args.text.now in
    let below = levels_held c.loop-i.below in
    let at_end : c.loop-i.i ≡ length text = omega arith in
    let whole = subst (λ (n : ℕ). run c.args.auths.now (Some start) (take n text) ≡ Some (judgement_at text n below c.loop-i.innermost)) at_end c.loop-i.invariant.0 in
    c.ending.ensures ∙ sym (judge_ends c.args.auths.now text (λ k. omega (arith, c.type_inv.text k)) (length text) (judgement_at text (length text) below c.loop-i.innermost) (omega arith) whole)
