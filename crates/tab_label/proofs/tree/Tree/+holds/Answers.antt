use Rattle.std.proofs.Common.{refl, arith}
use Rattle.tab_label.proofs.OperandLemmas.{and_holds, and_fails, or_holds, or_fails}
use Rattle.tab_label.proofs.tree.Tree.+holds.Goals as goal

pub returns-then-not-holds : goal.returns-then-not-holds
returns-then-not-holds t c =
    let w = c.in-Join in
    (λ e. absurd cc, λ h. absurd (and_fails c.args.auths.now c.args.self.now w.joiner w.operands c.deref-operand-items.result.now w.is c.deref-operand-items.ensures.value c.in-And.is c.all.operand-index c.operand-item.result c.all-test.true c.operand-item.is (λ x. let holds = c.holds.ensures.1 x in cc) h))

pub returns-then-holds : goal.returns-then-holds
returns-then-holds t c =
    let w = c.in-Join in
    let d = c.deref-operand-items-in-Or in
    (λ e. or_holds c.args.auths.now c.args.self.now w.joiner w.operands d.result.now w.is d.ensures.value c.in-Or.is c.any.operand-index c.operand-item-in-any.result c.any-test.true c.operand-item-in-any.is (c.holds-in-any.ensures.0 c.if-holds.true), λ h. refl)

pub returns-after-all : goal.returns-after-all
returns-after-all t c =
    let w = c.in-Join in
    (λ e. and_holds c.args.auths.now c.args.self.now w.joiner w.operands c.deref-operand-items.result.now w.is c.deref-operand-items.ensures.value c.in-And.is (λ k d lt. c.all.invariant k d (omega arith)), λ h. refl)

pub returns-after-any : goal.returns-after-any
returns-after-any t c =
    let w = c.in-Join in
    let d = c.deref-operand-items-in-Or in
    (λ e. absurd cc, λ h. absurd (or_fails c.args.auths.now c.args.self.now w.joiner w.operands d.result.now w.is d.ensures.value c.in-Or.is (λ k x lt. c.any.invariant k x (omega arith)) h))
