use Rattle.std.proofs.Common.{◌≡◌, ◌∙◌, ap, [], drop, take}
use Rattle.std.proofs.Math.Seq.{drop-nil}
use Rattle.tab_io.proofs.Blocks.{written_straight, straight_part}
use Rattle.tab_io.proofs.block_writer.BlockWriter.write_straight.Goals as goal

pub returns-in-Ok-clause-bytes : goal.returns-in-Ok-clause-bytes
returns-in-Ok-clause-bytes g c =
    let w = c.args.self.now in
    let none : drop w.start (take w.end w.block.items) ≡ [] = ap (λ n. drop w.start (take n w.block.items)) c.requires ∙ drop-nil w.start in
    written_straight _ _ _ c.args.bytes.now none c.in-Ok.ensures.bytes

pub returns-in-Err-clause-bytes : goal.returns-in-Err-clause-bytes
returns-in-Err-clause-bytes g c =
    let w = c.args.self.now in
    let none : drop w.start (take w.end w.block.items) ≡ [] = ap (λ n. drop w.start (take n w.block.items)) c.requires ∙ drop-nil w.start in
    straight_part _ _ _ c.args.bytes.now c.in-Err.field-0.written none c.in-Err.ensures.bytes.1
