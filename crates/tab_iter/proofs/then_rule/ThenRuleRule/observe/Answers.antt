-- The second rule is asked about what the first lets through.
use Rattle.std.proofs.Common.{◌≡◌, true, false, rules}
use Rattle.tab_iter.proofs.BothLaws.{judges_held, observes_held, judges_passed, observes_passed}
use Rattle.tab_iter.proofs.then_rule.ThenRuleRule.observe.Goals as goal

pub returns-then-not-branch-clause-judged : goal.returns-then-not-branch-clause-judged
returns-then-not-branch-clause-judged g c =
    let held : c.in_ok-observe.field-0 ≡ false = search rules in
    judges_held (g.A.Rule.admits c.args.self.now.first) (g.B.Rule.admits c.args.self.now.second) (g.A.Rule.HasObserved c.args.self.now.first) (g.B.Rule.HasObserved c.args.self.now.second) c.args.self.now.passed c.args.next.now _ c.in_ok-observe.ensures.judged held

pub returns-then-not-branch-clause-observed : goal.returns-then-not-branch-clause-observed
returns-then-not-branch-clause-observed g c =
    let held : c.in_ok-observe.field-0 ≡ false = search rules in
    observes_held (g.A.Rule.admits c.args.self.now.first) (g.B.Rule.admits c.args.self.now.second) (g.A.Rule.HasObserved c.args.self.now.first) (g.B.Rule.HasObserved c.args.self.now.second) c.args.self.now.passed c.args.next.now _ c.in_ok-observe.ensures.judged (g.A.Rule.admits c.observe.new.self) (g.A.Rule.HasObserved c.observe.new.self) c.observe.ensures.same held c.in_ok-observe.ensures.observed

pub returns-clause-judged : goal.returns-clause-judged
returns-clause-judged g c =
    let through : c.in_ok-observe.field-0 ≡ true = search rules in
    judges_passed (g.A.Rule.admits c.args.self.now.first) (g.B.Rule.admits c.args.self.now.second) (g.A.Rule.HasObserved c.args.self.now.first) (g.B.Rule.HasObserved c.args.self.now.second) c.args.self.now.passed c.args.next.now _ c.in_ok-observe.ensures.judged c.in_ok-passes.passes through c.in_ok-passes.ensures.judged

pub returns-clause-observed : goal.returns-clause-observed
returns-clause-observed g c =
    let through : c.in_ok-observe.field-0 ≡ true = search rules in
    observes_passed (g.A.Rule.admits c.args.self.now.first) (g.B.Rule.admits c.args.self.now.second) (g.A.Rule.HasObserved c.args.self.now.first) (g.B.Rule.HasObserved c.args.self.now.second) c.args.self.now.passed c.args.next.now _ c.in_ok-observe.ensures.judged (g.A.Rule.admits c.observe.new.self) (g.A.Rule.HasObserved c.observe.new.self) (g.B.Rule.HasObserved c.observe-2.new.self) c.observe.ensures.same through c.in_ok-observe.ensures.observed c.in_ok-passes.ensures.observed
