use Rattle.std.proofs.Common.{◌≡◌, ℤ, None, inr, false, subst, rules, ◌∙◌, to_z, of_z, w64}
use Rattle.tab_history.specs.declared.event.Act.TheVariants.{Open}
use Rattle.tab_history.specs.Answers.{session_of}
use Rattle.tab_store.specs.Stores.{base_of}
use Rattle.tab_core.specs.Slots.{are_full}
use Rattle.tab_core.specs.Owners.{kept_with}
use Rattle.tab_core.specs.Stepping.{Steps, StepsWith, asked_at}
use Rattle.tab_core.proofs.slots.Slots.open.Goals as goal

pub returns-clause-opens : goal.returns-clause-opens
returns-clause-opens c =
    let room : are_full c.args.self.now ≡ false = search rules in
    let trip : to_z w64 (of_z w64 c.args.moment) ≡ c.args.moment = search rules in
    let steps = subst (λ (m : ℤ). Steps (base_of c.args.core.now) (asked_at c.args.user.now m (Open c.args.scan.now)) c.open_lent.result (base_of c.open_lent.new.self)) trip c.open_lent.ensures.steps in
    let exact = subst (λ (m : ℤ). StepsWith c.args.core.now None (asked_at c.args.user.now m (Open c.args.scan.now)) c.open_lent.result c.open_lent.new.self) trip c.open_lent.ensures.exact in
    let kept : c.keep.new.slots.items ≡ kept_with c.args.self.now (session_of c.open_lent.result) = c.keep.ensures.slots ∙ (λ i. kept_with ((c.reserve.ensures.items ∙ c.self.view_is) i) (c.with_session-reply.ensures.session i)) in
    inr (inr (room, (c.open_lent.result, steps, exact, c.with_session-reply.ensures.told, kept)))
