use Rattle.tab_journal.specs.Memory.{history}
use Rattle.tab_journal.proofs.Calling.{kept_by, settled_by}
use Rattle.tab_journal.proofs.memory_device.MemoryDeviceDevice.sync.Goals as goal

pub returns-clause-durable : goal.returns-clause-durable
returns-clause-durable c =
    let d = c.args.self.now in
    settled_by (history d.calls.items) (history c.push_call-2.new.calls.items) c.new-2.result.items d.bytes.items c.in_ok-push_call-2.ensures.kept c.requires d.same

pub returns-clause-crash : goal.returns-clause-crash
returns-clause-crash c =
    let d = c.args.self.now in
    kept_by (history d.calls.items) (history c.push_call-2.new.calls.items) _ c.new-2.result.items c.in_ok-push_call-2.ensures.kept
