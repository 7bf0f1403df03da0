-- One text behind the other.
use Rattle.std.proofs.Common.{take}
use Rattle.tab_io.proofs.Putting.{accepts_more}
use Rattle.tab_wire.proofs.gathering.GatheringOutput.put_front.Goals as goal

pub returns-clause-bytes : goal.returns-clause-bytes
returns-clause-bytes c = accepts_more _ _ _ _ _ _ c.args.lead.now (take c.args.count c.args.bytes.now) c.put-2.result c.in_ok-put.ensures.bytes c.put-2.ensures.bytes
