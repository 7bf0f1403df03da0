use Rattle.tab_recovery.specs.CallLogs.{calls_in}
use Rattle.tab_recovery.proofs.Calling.{kept_by}
use Rattle.tab_recovery.proofs.left_device.LeftDeviceDevice.sync.Goals as goal

pub returns-clause-crash : goal.returns-clause-crash
returns-clause-crash c = kept_by (calls_in c.args.self.now.calls) (calls_in c.and-self-2.result) _ _ c.and-self-2.ensures c.requires
