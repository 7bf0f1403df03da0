use Rattle.std.proofs.Common.{ℕ, List, [], ◌∷◌, ◌++◌, subst, sym}
use Rattle.std.specs.Prelude.{codes, map}
use Rattle.tab_io.specs.Writing.{Puts}
use Rattle.tab_history.specs.declared.reply.Refusal.{Refusal}
use Rattle.tab_rules.specs.declared.violation.Violation.{Violation}
use Rattle.tab_text.specs.Lines.{after_spaces}
use Rattle.tab_replies.specs.Texts.{violation_word, refusal_text}
use Rattle.tab_replies.proofs.refusal.put_refusal.Goals as goal

pub returns-in-ConstraintViolation : goal.returns-in-ConstraintViolation
returns-in-ConstraintViolation g c =
    let P : List ℕ → Type 0 = λ t. Puts g.W.Output c.args.output.now c.put_violation.new.output t c.put_violation.result in
    subst (λ (x : Refusal). P (refusal_text x)) (sym c.in-ConstraintViolation.is)
    (subst (λ (fs : List Violation). P (codes "refused 6 ConstraintViolation" ++ (after_spaces (map violation_word fs) ++ 10 ∷ []))) c.as_slice.ensures c.put_violation.ensures)

pub returns-in-MalformedVisibility : goal.returns-in-MalformedVisibility
returns-in-MalformedVisibility g c = subst (λ (x : Refusal). Puts g.W.Output c.args.output.now c.put_malformed.new.output (refusal_text x) c.put_malformed.result) (sym c.in-MalformedVisibility.is) c.put_malformed.ensures

pub returns-in-EmptyMutation : goal.returns-in-EmptyMutation
returns-in-EmptyMutation g c = subst (λ (x : Refusal). Puts g.W.Output c.args.output.now c.put_bare.new.output (refusal_text x) c.put_bare.result) (sym c.in-EmptyMutation.is) c.put_bare.ensures

pub returns-in-TimestampNotAllowed : goal.returns-in-TimestampNotAllowed
returns-in-TimestampNotAllowed g c = subst (λ (x : Refusal). Puts g.W.Output c.args.output.now c.put_number.new.output (refusal_text x) c.put_number.result) (sym c.in-TimestampNotAllowed.is) c.put_number.ensures

pub returns-in-UserExists : goal.returns-in-UserExists
returns-in-UserExists g c = subst (λ (x : Refusal). Puts g.W.Output c.args.output.now c.put_name-in-UserExists.new.output (refusal_text x) c.put_name-in-UserExists.result) (sym c.in-UserExists.is) c.put_name-in-UserExists.ensures

pub returns-in-NoSession : goal.returns-in-NoSession
returns-in-NoSession g c = subst (λ (x : Refusal). Puts g.W.Output c.args.output.now c.put_number-in-NoSession.new.output (refusal_text x) c.put_number-in-NoSession.result) (sym c.in-NoSession.is) c.put_number-in-NoSession.ensures

pub returns-in-BelowHorizon : goal.returns-in-BelowHorizon
returns-in-BelowHorizon g c = subst (λ (x : Refusal). Puts g.W.Output c.args.output.now c.put_number-in-BelowHorizon.new.output (refusal_text x) c.put_number-in-BelowHorizon.result) (sym c.in-BelowHorizon.is) c.put_number-in-BelowHorizon.ensures

pub returns-in-NoJob : goal.returns-in-NoJob
returns-in-NoJob g c = subst (λ (x : Refusal). Puts g.W.Output c.args.output.now c.put_number-in-NoJob.new.output (refusal_text x) c.put_number-in-NoJob.result) (sym c.in-NoJob.is) c.put_number-in-NoJob.ensures

pub returns-in-VersionsRaised : goal.returns-in-VersionsRaised
returns-in-VersionsRaised g c = subst (λ (x : Refusal). Puts g.W.Output c.args.output.now c.put_number-in-VersionsRaised.new.output (refusal_text x) c.put_number-in-VersionsRaised.result) (sym c.in-VersionsRaised.is) c.put_number-in-VersionsRaised.ensures

pub returns-in-ServerTime : goal.returns-in-ServerTime
returns-in-ServerTime g c = subst (λ (x : Refusal). Puts g.W.Output c.args.output.now c.put_bare-in-ServerTime.new.output (refusal_text x) c.put_bare-in-ServerTime.result) (sym c.in-ServerTime.is) c.put_bare-in-ServerTime.ensures
