use Rattle.std.proofs.Common.{◌≡◌, ◌+◌, ◌∙◌, sym, ap, ◌-◌, List, ℕ, drop, take, arith}
use Rattle.std.proofs.lemmas.List.{drop-take}
use Rattle.tab_io.proofs.Blocks.{block_cut}
use Rattle.tab_io.proofs.block_writer.BlockWriter.write_block.Goals as goal

pub returns-in-Err-clause-bytes : goal.returns-in-Err-clause-bytes
returns-in-Err-clause-bytes g c =
    let w = c.args.self.now in
    let all : List ℕ = c.deref.result.now in
    let items : List ℕ = w.block.items in
    let rest : List ℕ = take (w.end - w.start) (drop w.start all) in
    let whole : w.start + (w.end - w.start) ≡ w.end = omega (arith, w.order) in
    let is : rest ≡ drop w.start (take w.end items) =
    ap (λ xs. take (w.end - w.start) (drop w.start xs)) c.deref.ensures.value ∙ sym (drop-take w.start (w.end - w.start) items) ∙ ap (λ k. drop w.start (take k items)) whole in
    block_cut (g.W.Write.contents w.sink.inner) (g.W.Write.contents c.write_all.new.self.inner) (take w.end items) rest w.start c.in-Err.stopped.written is c.in-Err.ensures.bytes.0 c.in-Err.ensures.bytes.1
