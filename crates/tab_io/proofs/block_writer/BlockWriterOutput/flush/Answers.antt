use Rattle.std.proofs.Common.{drop, take}
use Rattle.tab_io.proofs.Blocks.{passed_on}
use Rattle.tab_io.proofs.block_writer.BlockWriterOutput.flush.Goals as goal

pub returns-clause-bytes : goal.returns-clause-bytes
returns-clause-bytes g c =
    let w = c.args.self.now in
    let v = c.write_block.new.self in
    passed_on (g.W.Write.contents w.sink.inner) (g.W.Write.contents v.sink.inner) (g.W.Write.contents c.flush.new.self.inner) (drop w.start (take w.end w.block.items)) (drop v.start (take v.end v.block.items)) c.flush.result (c.in_ok-write_block.ensures.bytes.0) (c.in_ok-write_block.ensures.bytes.1) c.flush.ensures.bytes
