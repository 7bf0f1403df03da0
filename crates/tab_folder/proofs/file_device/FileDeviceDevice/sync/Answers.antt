use Rattle.tab_recovery.specs.CallLogs.{calls_in}
use Rattle.tab_recovery.proofs.Calling.{kept_by}
use Rattle.tab_folder.proofs.file_device.FileDeviceDevice.sync.Goals as goal

pub returns-in-Ok-clause-crash : goal.returns-in-Ok-clause-crash
returns-in-Ok-clause-crash c = kept_by (calls_in c.args.self.now.calls) (calls_in c.note.new.self.calls) _ _ c.note.ensures c.requires
