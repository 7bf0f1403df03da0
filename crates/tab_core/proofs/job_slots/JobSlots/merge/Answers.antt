use Rattle.std.proofs.Common.{◌≡◌, ◌<◌, ◌≤◌, List, length, rules, sym, subst, ◌∙◌}
use Rattle.std.specs.Prelude.{slice_set}
use Rattle.tab_history.specs.declared.reply.Refusal.TheVariants.{NoJob}
use Rattle.tab_history.specs.declared.reply.Reply.TheVariants.{Refused}
use Rattle.tab_core.specs.declared.job_slots.JobSlot.{JobSlot}
use Rattle.tab_core.specs.JobSlots.{slot_in, after_made, MergesIn}
use Rattle.tab_core.proofs.JobLemmas.{slot_found, merges_in, merges_past}
use Rattle.tab_core.proofs.job_slots.JobSlots.merge.Goals as goal

pub returns-then-at-len : goal.returns-then-at-len
returns-then-at-len c =
    let le : length c.self.inside.slots.items ≤ c.args.slot = search rules in
    subst (λ (ss : List JobSlot). MergesIn ss c.args.slot (Refused (NoJob c.args.slot)) ss) c.self.view_is (merges_past c.self.inside.slots.items c.args.slot le)

pub returns : goal.returns
returns c =
    let items : List JobSlot = c.self.inside.slots.items in
    let lt : c.args.slot < length items = search rules in
    let was : c.replace-was.result ≡ c.index_mut.result.now = search rules in
    let found : slot_in items c.args.slot ≡ c.replace-was.result = slot_found items c.args.slot c.index_mut.result.now lt c.index_mut.ensures.value ∙ sym was in
    let put : c.put.new.place ≡ after_made c.replace-was.result c.merge-reply.result.0 = c.put.ensures ∙ c.merge-reply.ensures.left in
    subst (λ (ss : List JobSlot). MergesIn ss c.args.slot c.merge-reply.result.0 (slice_set (slice_set items c.args.slot c.replace-was.new.dest) c.args.slot c.put.new.place)) c.self.view_is
    (merges_in items c.args.slot c.replace-was.result c.replace-was.new.dest c.put.new.place c.merge-reply.result.0 found c.merge-reply.ensures.answers put)
