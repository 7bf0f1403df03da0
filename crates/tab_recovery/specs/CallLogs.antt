-- For proofs. The calls of a file that are kept for contracts.
use Rattle.std.specs.Prelude.{ℕ, List, map, reverse}
use Rattle.tab_recovery.specs.Calls.{Call}
use Rattle.tab_recovery.specs.declared.call_log.CallLog.{CallLog}
use Rattle.tab_recovery.specs.declared.file_call.FileCall.{FileCall}
use Rattle.http_server.specs.declared.log.Log.{Log}

-- the bytes that were noted
abbrev pub bytes_in : Log ℕ (Unit {0}) → List ℕ
bytes_in log = map (λ x. x.0) log.items

abbrev pub call_in : FileCall × Log ℕ (Unit {0}) → Call
call_in call = (call.0.asked, call.0.is_ok, bytes_in call.1)

-- the newest first
abbrev pub calls_in : CallLog → List Call
calls_in log = reverse (map call_in log.calls.items)
