-- For proofs. The calls of such a device, and the bytes that were read or put.
use Rattle.std.specs.Prelude.{ℕ, List}
use Rattle.tab_recovery.specs.CallLogs.{calls_in}
use Rattle.tab_recovery.specs.Calls.{Call}
use Rattle.tab_recovery.specs.declared.left_device.LeftDevice.{LeftDevice}

abbrev pub calls_of : LeftDevice → List Call
calls_of d = calls_in d.calls

abbrev pub bytes_of : LeftDevice → List ℕ
bytes_of d = d.seen.items
