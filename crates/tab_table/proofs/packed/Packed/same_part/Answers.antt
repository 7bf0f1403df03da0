-- As long, and one byte more that is the same.
use Rattle.std.proofs.Common.{◌∙◌, ◌+◌, ◌<◌, ◌≤◌, ◌&&◌, sym, ap, length, drop, arith}
use Rattle.std.specs.Prelude.{bytes_eq}
use Rattle.std.specs.List.{slice_index_or}
use Rattle.tab_table.specs.Blocks.{block_records}
use Rattle.tab_table.specs.PartBytes.{part_of}
use Rattle.tab_table.proofs.ByteWise.{bytes_next, bytes_ended, bytes_differ}
use Rattle.tab_table.proofs.packed.Packed.same_part.Goals as goal

pub returns-then-part_len-len : goal.returns-then-part_len-len
returns-then-part_len-len c = λ u v. sym (bytes_differ (part_of c.args.part (slice_index_or (block_records c.args.self.now.bytes c.args.self.now.count) c.args.mine u).key) (part_of c.args.part (slice_index_or (block_records c.args.other.now.bytes c.args.other.now.count) c.args.others v).key) (λ e. c.if-part_len-len.true (c.part_len.ensures v ∙ sym e ∙ sym (c.part_len-len.ensures u))))

pub returns-then-not-same_byte : goal.returns-then-not-same_byte
returns-then-not-same_byte c = λ u v.
    let a = (part_of c.args.part (slice_index_or (block_records c.args.self.now.bytes c.args.self.now.count) c.args.mine u).key) in
    let b = (part_of c.args.part (slice_index_or (block_records c.args.other.now.bytes c.args.other.now.count) c.args.others v).key) in
    let i = c.loop-index.index in
    let here : i < length a = omega (arith, c.part_len-len.ensures u) in
    let there : i < length b = omega (arith, here, c.if-part_len-len.false, c.part_len.ensures v, c.part_len-len.ensures u) in
    sym (c.loop-index.invariant u v ∙ bytes_next a b i here there ∙ ap (λ r. r && bytes_eq (drop (i + 1) a) (drop (i + 1) b)) (sym (c.same_byte.ensures u v) ∙ c.if-not-same_byte.true))

pub loop-index-preserved : goal.loop-index-preserved
loop-index-preserved c = λ u v.
    let a = (part_of c.args.part (slice_index_or (block_records c.args.self.now.bytes c.args.self.now.count) c.args.mine u).key) in
    let b = (part_of c.args.part (slice_index_or (block_records c.args.other.now.bytes c.args.other.now.count) c.args.others v).key) in
    let i = c.loop-index.index in
    let here : i < length a = omega (arith, c.part_len-len.ensures u) in
    let there : i < length b = omega (arith, here, c.if-part_len-len.false, c.part_len.ensures v, c.part_len-len.ensures u) in
    c.loop-index.invariant u v ∙ bytes_next a b i here there ∙ ap (λ r. r && bytes_eq (drop (i + 1) a) (drop (i + 1) b)) (sym (c.same_byte.ensures u v) ∙ c.if-not-same_byte.false)

pub returns : goal.returns
returns c = λ u v.
    let a = (part_of c.args.part (slice_index_or (block_records c.args.self.now.bytes c.args.self.now.count) c.args.mine u).key) in
    let b = (part_of c.args.part (slice_index_or (block_records c.args.other.now.bytes c.args.other.now.count) c.args.others v).key) in
    let i = c.loop-index.index in
    let here : length a ≤ i = omega (arith, c.part_len-len.ensures u) in
    let there : length b ≤ i = omega (arith, here, c.if-part_len-len.false, c.part_len.ensures v, c.part_len-len.ensures u) in
    sym (c.loop-index.invariant u v ∙ bytes_ended a b i here there)
