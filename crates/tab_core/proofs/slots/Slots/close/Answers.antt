use Rattle.std.proofs.Common.{◌≡◌, ◌<◌, ◌≤◌, List, length, Option, true, false, rules, sym, ap, ◌∙◌, subst}
use Rattle.std.specs.Prelude.{slice_set, is_some}
use Rattle.tab_cells.specs.SessionState.{SessionState}
use Rattle.tab_history.specs.declared.reply.Refusal.TheVariants.{NoSession}
use Rattle.tab_history.specs.declared.reply.Reply.TheVariants.{Done, Refused}
use Rattle.tab_core.specs.Slots.{CloseFrom}
use Rattle.tab_core.proofs.PlaceLemmas.{slot_found, close_past, close_empty, close_full}
use Rattle.tab_core.proofs.slots.Slots.close.Goals as goal

pub returns-then-at-len : goal.returns-then-at-len
returns-then-at-len c = let le : length c.self.inside.slots.items ≤ c.args.slot = search rules in subst (λ (ss : List (Option SessionState)). CloseFrom ss c.args.slot (Refused (NoSession c.args.slot)) ss) c.self.view_is (close_past c.self.inside.slots.items c.args.slot le)

pub returns-then-is_none : goal.returns-then-is_none
returns-then-is_none c =
    let lt : c.args.slot < length c.self.inside.slots.items = search rules in
    let empty : is_some c.index.result.now ≡ false = search rules in
    subst (λ (ss : List (Option SessionState)). CloseFrom ss c.args.slot (Refused (NoSession c.args.slot)) ss) c.self.view_is (close_empty c.self.inside.slots.items c.args.slot c.index.result.now lt c.index.ensures empty)

pub returns : goal.returns
returns c =
    let items : List (Option SessionState) = c.self.inside.slots.items in
    let lt : c.args.slot < length items = search rules in
    let same : c.index_mut.result.now ≡ c.index.result.now = sym (slot_found items c.args.slot c.index_mut.result.now lt c.index_mut.ensures.value) ∙ slot_found items c.args.slot c.index.result.now lt c.index.ensures in
    let was : is_some c.index.result.now ≡ true = search rules in
    let full : is_some c.index_mut.result.now ≡ true = ap is_some same ∙ was in
    subst (λ (ss : List (Option SessionState)). CloseFrom ss c.args.slot Done (slice_set items c.args.slot c.put.new.place)) c.self.view_is (close_full items c.args.slot c.index_mut.result.now c.put.new.place lt c.index_mut.ensures.value full c.put.ensures)
