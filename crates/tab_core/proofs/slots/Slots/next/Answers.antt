use Rattle.std.proofs.Common.{◌≡◌, ◌<◌, ◌≤◌, List, length, Option, Some, None, rules, sym, ◌∙◌, subst}
use Rattle.tab_history.specs.Answers.{Told}
use Rattle.tab_cells.specs.SessionState.{SessionState, batch, gave}
use Rattle.tab_history.specs.declared.reply.Refusal.TheVariants.{NoSession, NoMemory}
use Rattle.tab_history.specs.declared.reply.Reply.TheVariants.{Refused, Batch}
use Rattle.std.specs.Prelude.{slice_set}
use Rattle.tab_core.specs.Slots.{NextFrom}
use Rattle.tab_core.proofs.PlaceLemmas.{next_past, next_none, next_batch, next_refused}
use Rattle.tab_core.proofs.SlotLemmas.{count_back}
use Rattle.tab_core.proofs.slots.Slots.next.Goals as goal
use Rattle.tab_core.proofs.slots.Slots.next.Goals.{in-Ok, in-Err}

pub returns-then-at-len : goal.returns-then-at-len
returns-then-at-len c = let le : length c.self.inside.slots.items ≤ c.args.slot = search rules in
    subst (λ (ss : List (Option SessionState)). NextFrom ss c.args.slot c.args.count (Refused (NoSession c.args.slot)) ss) c.self.view_is (next_past c.self.inside.slots.items c.args.slot c.args.count le)

pub returns-in-None : goal.returns-in-None
returns-in-None c =
    let items : List (Option SessionState) = c.self.inside.slots.items in
    let lt : c.args.slot < length items = search rules in
    let same : c.replace.result ≡ c.index_mut.result.now = search rules in
    let put : c.replace.new.dest ≡ None = search rules in
    subst (λ (ss : List (Option SessionState)). NextFrom ss c.args.slot c.args.count (Refused (NoSession c.args.slot)) (slice_set items c.args.slot c.replace.new.dest)) c.self.view_is
    (next_none items c.args.slot c.args.count c.index_mut.result.now c.replace.new.dest lt c.index_mut.ensures.value (sym same ∙ c.in-None.is) put)

pub returns-after-cells : goal.returns-after-cells
returns-after-cells c =
    let items : List (Option SessionState) = c.self.inside.slots.items in
    let lt : c.args.slot < length items = search rules in
    let same : c.replace.result ≡ c.index_mut.result.now = search rules in
    let put : c.replace-in-Some.new.dest ≡ Some c.next_batch-cells.new.self = search rules in
    let new : List (Option SessionState) = slice_set (slice_set items c.args.slot c.replace.new.dest) c.args.slot c.replace-in-Some.new.dest in
    let P : Told → Type 0 = λ reply. NextFrom c.args.self.now c.args.slot c.args.count reply new in
    elim c.match-cells.branch [
      | in-Ok w ↦
          let cells : w.in-Ok.cells ≡ batch c.in-Some.session c.args.count = search rules in
          let after : c.next_batch-cells.new.self ≡ gave (length (batch c.in-Some.session c.args.count)) c.in-Some.session = search rules in
          subst P (sym w.result-is) (subst (λ (ss : List (Option SessionState)). NextFrom ss c.args.slot c.args.count (Batch w.in-Ok.cells) new) c.self.view_is
          (next_batch items c.args.slot c.args.count c.index_mut.result.now c.replace.new.dest c.replace-in-Some.new.dest c.in-Some.session c.next_batch-cells.new.self w.in-Ok.cells lt c.index_mut.ensures.value (sym same ∙ c.in-Some.is) cells after put))
      | in-Err w ↦
          let after : c.next_batch-cells.new.self ≡ c.in-Some.session = search rules in
          subst P (sym w.result-is) (subst (λ (ss : List (Option SessionState)). NextFrom ss c.args.slot c.args.count (Refused NoMemory) new) c.self.view_is
          (next_refused items c.args.slot c.args.count c.index_mut.result.now c.replace.new.dest c.replace-in-Some.new.dest c.in-Some.session c.next_batch-cells.new.self lt c.index_mut.ensures.value (sym same ∙ c.in-Some.is) after put))
    ]

pub invariant_of-self-in-Some : goal.invariant_of-self-in-Some
invariant_of-self-in-Some c =
    let items : List (Option SessionState) = c.self.inside.slots.items in
    let lt : c.args.slot < length items = search rules in
    let same : c.replace.result ≡ c.index_mut.result.now = search rules in
    let put : c.replace-in-Some.new.dest ≡ Some c.next_batch-cells.new.self = search rules in
    c.self.invariant ∙ sym (count_back items c.args.slot c.index_mut.result.now c.replace.new.dest c.replace-in-Some.new.dest c.in-Some.session c.next_batch-cells.new.self lt c.index_mut.ensures.value (sym same ∙ c.in-Some.is) put)
