-- For proofs. What the file of a journal stands for.
use Rattle.std.specs.Prelude.{List}
use Rattle.tab_folder.specs.declared.file_device.FileDevice.{FileDevice}
use Rattle.tab_recovery.specs.Calls.{Call}
use Rattle.tab_recovery.specs.CallLogs.{calls_in}

abbrev pub calls_of : FileDevice → List Call
calls_of d = calls_in d.calls
