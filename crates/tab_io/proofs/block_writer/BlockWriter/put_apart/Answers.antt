-- One text behind the other.
use Rattle.tab_io.proofs.Putting.{accepts_more}
use Rattle.tab_io.proofs.block_writer.BlockWriter.put_apart.Goals as goal

pub returns-clause-bytes : goal.returns-clause-bytes
returns-clause-bytes g c = accepts_more _ _ _ _ _ _ c.args.lead.now c.args.bytes.now c.put-2.result c.in_ok-put.ensures.bytes c.put-2.ensures.bytes
