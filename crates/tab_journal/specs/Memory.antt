-- For proofs. The calls that a device in memory keeps.
use Rattle.std.specs.Prelude.{cond, List, map, reverse}
use Rattle.tab_journal.specs.declared.memory.MemoryCall.{MemoryCall}
use Rattle.tab_journal.specs.Calls.{Call}

abbrev pub call_in : MemoryCall → Call
call_in call = (cond call.is_sync 1 0, call.is_ok, call.bytes.items)

-- the newest first
abbrev pub history : List MemoryCall → List Call
history calls = reverse (map call_in calls)
