-- For proofs. What a device in memory stands for.
use Rattle.std.specs.Prelude.{ℕ, List}
use Rattle.tab_journal.specs.declared.memory_device.MemoryDevice.{MemoryDevice}
use Rattle.tab_journal.specs.Calls.{Call}
use Rattle.tab_journal.specs.Memory.{history}

abbrev pub calls_of : MemoryDevice → List Call
calls_of d = history d.calls.items

abbrev pub bytes_of : MemoryDevice → List ℕ
bytes_of d = d.bytes.items
