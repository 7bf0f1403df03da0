use Rattle.std.proofs.Common.{refl, ◌∙◌, rules}
use Rattle.tab_work.specs.SharedAnswers.{seated, slots_of, LentSame}
use Rattle.tab_work.proofs.Keeping.{forgets_all}
use Rattle.tab_work.proofs.forgetting.serve_forgetting.Goals as goal

pub returns-clause-shares : goal.returns-clause-shares
returns-clause-shares g c =
    forgets_all _ g.M.Moments.gives (λ x. seated x.service) (λ x. slots_of x.service) (λ x y. LentSame x.service y.service) (λ x. record { seat = refl; receipts = refl; moments = refl })
    (λ x y z p q. record { seat = q.seat ∙ p.seat; receipts = q.receipts ∙ p.receipts; moments = q.moments ∙ p.moments })
    (λ x user request r y does. (does.shares, does.lent)) (λ x. refl) g.I.Input g.W.Output _ c.converse.new.service c.args.input.now c.converse.new.input c.args.output.now c.converse.new.output
    _ _ (search rules) (λ same. (search rules, search rules)) c.converse.result c.converse.ensures.answers
