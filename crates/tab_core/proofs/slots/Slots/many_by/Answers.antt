use Rattle.std.proofs.Common.{◌≡◌, ◌<◌, ◌≤◌, List, length, Option, rules, ◌∙◌, subst}
use Rattle.tab_cells.specs.SessionState.{SessionState}
use Rattle.tab_history.specs.declared.reply.Refusal.TheVariants.{NoSession}
use Rattle.tab_history.specs.declared.reply.Reply.TheVariants.{Refused}
use Rattle.tab_core.specs.Slots.{ManyFrom}
use Rattle.tab_core.proofs.PlaceLemmas.{many_past, many_there, place_left}
use Rattle.tab_core.proofs.slots.Slots.many_by.Goals as goal

pub returns-then-at-len-clause-answers : goal.returns-then-at-len-clause-answers
returns-then-at-len-clause-answers g c =
    let le : length c.self.inside.slots.items ≤ c.args.slot = search rules in
    subst (λ (ss : List (Option SessionState)). ManyFrom ss c.args.slot c.args.ranges.now (Refused (NoSession c.args.slot))) c.self.view_is (many_past c.self.inside.slots.items c.args.slot c.args.ranges.now le)

pub returns-clause-answers : goal.returns-clause-answers
returns-clause-answers g c =
    let items : List (Option SessionState) = c.self.inside.slots.items in
    let lt : c.args.slot < length items = search rules in
    subst (λ (ss : List (Option SessionState)). ManyFrom ss c.args.slot c.args.ranges.now c.many_at.result) c.self.view_is (many_there items c.args.slot c.index_mut.result.now c.args.ranges.now c.many_at.result lt c.index_mut.ensures.value c.many_at.ensures.answers)

pub returns-clause-same : goal.returns-clause-same
returns-clause-same g c =
    let items : List (Option SessionState) = c.self.inside.slots.items in
    let lt : c.args.slot < length items = search rules in
    place_left items c.args.slot c.index_mut.result.now c.many_at.new.place lt c.index_mut.ensures.value c.many_at.ensures.same ∙ c.self.view_is
