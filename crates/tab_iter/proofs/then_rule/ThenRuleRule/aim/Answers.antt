-- The rule that held the record back knows what behind it doesn't pass.
use Rattle.std.proofs.Common.{◌≡◌, Some, true, false, rules}
use Rattle.std.proofs.lemmas.Result.{IfOk-weaker}
use Rattle.tab_iter.proofs.BothLaws.{keeps_first, keeps_second, none_first, none_second}
use Rattle.tab_iter.proofs.then_rule.ThenRuleRule.aim.Goals as goal

pub returns-in-Some-true-clause-observed : goal.returns-in-Some-true-clause-observed
returns-in-Some-true-clause-observed g c = IfOk-weaker c.aim.result _ _ (λ _ keeps. keeps_second (g.A.Rule.admits c.args.self.now.first) (g.B.Rule.admits c.args.self.now.second) (g.A.Rule.HasObserved c.args.self.now.first) (g.B.Rule.HasObserved c.args.self.now.second) c.args.self.now.passed (g.B.Rule.HasObserved c.aim.new.self) keeps) c.aim.ensures.observed

pub returns-in-Some-true-clause-idle : goal.returns-in-Some-true-clause-idle
returns-in-Some-true-clause-idle g c =
    let told : c.args.self.now.passed ≡ Some true = search rules in
    IfOk-weaker c.aim.result _ _ (λ b none yes. none_second (g.A.Rule.admits c.args.self.now.first) (g.B.Rule.admits c.args.self.now.second) (g.A.Rule.HasObserved c.args.self.now.first) (g.B.Rule.HasObserved c.args.self.now.second) c.args.self.now.passed c.args.held.now (g.A.Rule.aims_at c.args.self.now.first) (g.B.Rule.aims_at c.aim.new.self) told (none yes)) c.aim.ensures.idle

pub returns-in-Some-false-clause-observed : goal.returns-in-Some-false-clause-observed
returns-in-Some-false-clause-observed g c = IfOk-weaker c.aim-in-Some-false.result _ _ (λ _ keeps. keeps_first (g.A.Rule.admits c.args.self.now.first) (g.B.Rule.admits c.args.self.now.second) (g.A.Rule.HasObserved c.args.self.now.first) (g.B.Rule.HasObserved c.args.self.now.second) c.args.self.now.passed (g.A.Rule.admits c.aim-in-Some-false.new.self) (g.A.Rule.HasObserved c.aim-in-Some-false.new.self) c.aim-in-Some-false.ensures.same keeps) c.aim-in-Some-false.ensures.observed

pub returns-in-Some-false-clause-idle : goal.returns-in-Some-false-clause-idle
returns-in-Some-false-clause-idle g c =
    let told : c.args.self.now.passed ≡ Some false = search rules in
    IfOk-weaker c.aim-in-Some-false.result _ _ (λ b none yes. none_first (g.A.Rule.admits c.args.self.now.first) (g.B.Rule.admits c.args.self.now.second) (g.A.Rule.HasObserved c.args.self.now.first) (g.B.Rule.HasObserved c.args.self.now.second) c.args.self.now.passed c.args.held.now (g.A.Rule.aims_at c.aim-in-Some-false.new.self) (g.B.Rule.aims_at c.args.self.now.second) told (none yes)) c.aim-in-Some-false.ensures.idle
