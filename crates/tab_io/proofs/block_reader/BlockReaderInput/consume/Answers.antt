use Rattle.std.proofs.Common.{◌-◌, ◌≤◌, length-take, List, ℕ, drop, take, slice_range, sym, subst, arith}
use Rattle.std.specs.Io.KnownBytes.{Consumes, prepend_known}
use Rattle.tab_io.proofs.Blocks.{range_later, front_taken}
use Rattle.tab_io.proofs.block_reader.BlockReaderInput.consume.Goals as goal

pub returns-clause-front : goal.returns-clause-front
returns-clause-front g c =
    let r = c.args.self.now in
    range_later r.block.items r.start r.end c.args.count (omega (arith, c.requires, length-take (r.end - r.start) (drop r.start r.block.items)))

pub returns-clause-bytes : goal.returns-clause-bytes
returns-clause-bytes g c =
    let r = c.args.self.now in
    let front : List ℕ = slice_range r.block.items r.start r.end in
    let known = g.R.Read.remaining r.source.inner in
    let fits : c.args.count ≤ r.end - r.start = omega (arith, c.requires, length-take (r.end - r.start) (drop r.start r.block.items)) in
    let P : List ℕ → Type 0 = λ x. Consumes (prepend_known front known) (prepend_known x known) (take c.args.count front) in
    subst P (sym (range_later r.block.items r.start r.end c.args.count fits)) (front_taken known front c.args.count)
