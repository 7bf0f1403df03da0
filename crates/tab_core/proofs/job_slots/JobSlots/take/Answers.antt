use Rattle.std.proofs.Common.{◌≡◌, ◌<◌, ◌≤◌, List, length, None, rules, sym, ap, subst, ◌∙◌}
use Rattle.std.specs.Prelude.{slice_set}
use Rattle.tab_core.specs.declared.job_slots.JobSlot.{JobSlot}
use Rattle.tab_core.specs.JobSlots.{slot_in, finished_in, freed}
use Rattle.tab_core.proofs.JobLemmas.{slot_found, slot_past, taken_in, taken_past}
use Rattle.tab_core.proofs.job_slots.JobSlots.take.Goals as goal

pub returns-then-at-len-clause-finished : goal.returns-then-at-len-clause-finished
returns-then-at-len-clause-finished c =
    let le : length c.self.inside.slots.items ≤ c.args.slot = search rules in
    subst (λ (ss : List JobSlot). None ≡ finished_in (slot_in ss c.args.slot)) c.self.view_is (sym (ap finished_in (slot_past c.self.inside.slots.items c.args.slot le)))

pub returns-then-at-len-clause-left : goal.returns-then-at-len-clause-left
returns-then-at-len-clause-left c =
    let le : length c.self.inside.slots.items ≤ c.args.slot = search rules in
    subst (λ (ss : List JobSlot). ss ≡ slice_set ss c.args.slot (freed (slot_in ss c.args.slot))) c.self.view_is (taken_past c.self.inside.slots.items c.args.slot le)

pub returns-clause-finished : goal.returns-clause-finished
returns-clause-finished c =
    let items : List JobSlot = c.self.inside.slots.items in
    let lt : c.args.slot < length items = search rules in
    let was : c.replace-was.result ≡ c.index_mut.result.now = search rules in
    let found : slot_in items c.args.slot ≡ c.replace-was.result = slot_found items c.args.slot c.index_mut.result.now lt c.index_mut.ensures.value ∙ sym was in
    subst (λ (ss : List JobSlot). c.take-finished.result.0 ≡ finished_in (slot_in ss c.args.slot)) c.self.view_is (c.take-finished.ensures.finished ∙ ap finished_in (sym found))

pub returns-clause-left : goal.returns-clause-left
returns-clause-left c =
    let items : List JobSlot = c.self.inside.slots.items in
    let lt : c.args.slot < length items = search rules in
    let was : c.replace-was.result ≡ c.index_mut.result.now = search rules in
    let found : slot_in items c.args.slot ≡ c.replace-was.result = slot_found items c.args.slot c.index_mut.result.now lt c.index_mut.ensures.value ∙ sym was in
    let put : c.put.new.place ≡ freed c.replace-was.result = c.put.ensures ∙ c.take-finished.ensures.left in
    subst (λ (ss : List JobSlot). slice_set (slice_set items c.args.slot c.replace-was.new.dest) c.args.slot c.put.new.place ≡ slice_set ss c.args.slot (freed (slot_in ss c.args.slot))) c.self.view_is
    (taken_in items c.args.slot c.replace-was.result c.replace-was.new.dest c.put.new.place found put)
