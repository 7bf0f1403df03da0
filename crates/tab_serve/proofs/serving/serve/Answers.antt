use Rattle.std.proofs.Common.{refl, ◌∙◌, rules}
use Rattle.tab_serve.specs.CoreAnswers.{served, LentSame}
use Rattle.tab_serve.proofs.Connecting.{serves_all}
use Rattle.tab_serve.proofs.serving.serve.Goals as goal

pub returns-clause-serves : goal.returns-clause-serves
returns-clause-serves g c =
    serves_all _ g.M.Moments.gives served LentSame (λ x. record { core = refl; moments = refl }) (λ x y z p q. record { core = q.core ∙ p.core; moments = q.moments ∙ p.moments }) (λ x user request r y does. (does.serves, does.lent)) (λ x. refl)
    g.R.Input g.W.Output _ c.converse.new.service c.args.input.now c.converse.new.input c.args.output.now c.converse.new.output _ _ (search rules) (λ same. (search rules, search rules)) c.converse.result c.converse.ensures.answers
