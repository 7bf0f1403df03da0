use Rattle.std.proofs.Common.{◌≡◌, ◌++◌, drop, take, List, ℕ, Option, sym, ap, ◌∙◌, subst}
use Rattle.std.specs.Io.KnownBytes.{Appends}
use Rattle.tab_io.proofs.Blocks.{gathered_anew, accepts_after}
use Rattle.tab_io.proofs.block_writer.BlockWriter.put_after_block.Goals as goal

pub returns-then-bytes-len-clause-bytes : goal.returns-then-bytes-len-clause-bytes
returns-then-bytes-len-clause-bytes g c =
    let w = c.args.self.now in
    let u = c.write_block.new.self in
    let v = c.gather.new.self in
    let items : take v.end v.block.items ≡ c.args.bytes.now = c.gather.ensures.block ∙ ap (λ n. take n u.block.items ++ c.args.bytes.now) c.in_ok-write_block.ensures.empty.1 in
    let start : v.start ≡ 0 = c.gather.ensures.start ∙ c.in_ok-write_block.ensures.empty.0 in
    let P : Option (List ℕ) → Type 0 = λ x. Appends (g.W.Write.contents w.sink.inner) x (drop w.start (take w.end w.block.items)) in
    let same : g.W.Write.contents u.sink.inner ≡ g.W.Write.contents v.sink.inner = ap (λ s. g.W.Write.contents s.inner) (sym c.gather.ensures.sink) in
    gathered_anew _ _ _ _ _ (subst P same c.in_ok-write_block.ensures.bytes.0) (ap (λ n. drop n (take v.end v.block.items)) start ∙ items)

pub returns-clause-bytes : goal.returns-clause-bytes
returns-clause-bytes g c =
    let w = c.args.self.now in
    let u = c.write_block.new.self in
    let v = c.write_straight.new.self in
    accepts_after (g.W.Write.contents w.sink.inner) (g.W.Write.contents u.sink.inner) (g.W.Write.contents v.sink.inner) (drop w.start (take w.end w.block.items)) (drop v.start (take v.end v.block.items)) c.args.bytes.now c.write_straight.result (c.in_ok-write_block.ensures.bytes.0) c.write_straight.ensures.bytes
