use Rattle.std.proofs.Common.{◌≡◌, List, length, ap, ◌∙◌, subst}
use Rattle.std.proofs.lemmas.Result.{IfOk-weaker}
use Rattle.tab_history.specs.declared.event.Step.{Step}
use Rattle.tab_history.specs.Bases.{new_core}
use Rattle.tab_history.specs.Histories.{world_of, is_by}
use Rattle.tab_history.specs.Legal.{Legal}
use Rattle.tab_store.specs.Chains.{IsExactRun}
use Rattle.tab_core.specs.Slots.{history_of}
use Rattle.tab_core.specs.Comparing.{those_of, IsTold}
use Rattle.tab_core.proofs.Picked.{told_by}
use Rattle.tab_core.proofs.comparing.told_in.Goals as goal

pub returns : goal.returns
returns c =
    let replies = c.in_ok-replies.replies.items in
    IfOk-weaker c.pick.result (λ told. told.items ≡ those_of (is_by c.args.user.now) c.args.steps.now replies) (λ told. IsTold c.args.user.now c.args.steps.now told.items)
    (λ told is. told_by c.args.user.now c.args.steps.now replies told.items (c.in_ok-replies.ensures.length ∙ ap length c.in_ok-copies.ensures)
    (subst (λ (steps : List Step). Legal (world_of new_core) (history_of steps replies)) c.in_ok-copies.ensures c.in_ok-replies.ensures.legal)
    (subst (λ (steps : List Step). IsExactRun (history_of steps replies)) c.in_ok-copies.ensures c.in_ok-replies.ensures.exact) is)
    c.pick.ensures
