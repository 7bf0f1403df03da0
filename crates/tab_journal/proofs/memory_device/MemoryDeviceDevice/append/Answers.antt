use Rattle.std.proofs.Common.{rules, ◌≡◌, ℕ, List, length, subst}
use Rattle.tab_journal.specs.Calls.{state_behind, MayLeave}
use Rattle.tab_journal.specs.Device.{Torn, Follows}
use Rattle.tab_journal.specs.Memory.{history}
use Rattle.tab_journal.proofs.Calling.{torn_by}
use Rattle.tab_journal.proofs.memory_device.MemoryDeviceDevice.append.Goals as goal

pub returns-then-self-eq0-clause-crash : goal.returns-then-self-eq0-clause-crash
returns-then-self-eq0-clause-crash c =
    let d = c.args.self.now in
    let new = history c.push_call.new.calls.items in
    let same : c.in_ok-kept.kept.items ≡ c.args.bytes.now = search rules in
    subst (λ (z : List ℕ). Follows (Torn (length d.bytes.items) (length z)) (MayLeave (state_behind (history d.calls.items))) (MayLeave (state_behind new))) same
    (torn_by (history d.calls.items) new _ c.in_ok-kept.kept.items d.bytes.items c.in_ok-push_call.ensures.kept c.requires d.same)

pub returns-clause-crash : goal.returns-clause-crash
returns-clause-crash c =
    let d = c.args.self.now in
    let new = history c.push_call-2.new.calls.items in
    let same : c.in_ok-kept.kept.items ≡ c.args.bytes.now = search rules in
    subst (λ (z : List ℕ). Follows (Torn (length d.bytes.items) (length z)) (MayLeave (state_behind (history d.calls.items))) (MayLeave (state_behind new))) same
    (torn_by (history d.calls.items) new _ c.in_ok-kept.kept.items d.bytes.items c.in_ok-push_call-2.ensures.kept c.requires d.same)
