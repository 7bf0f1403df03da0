-- The byte is kept, or one of the rest.
use Rattle.std.proofs.Common.{◌≤◌, ◌∙◌, ◌+◌, ◌-◌, ap, sym, get_or, arith}
use Rattle.tab_key.specs.Encoding.{length_at, record_at}
use Rattle.tab_key.specs.Records.{Record}
use Rattle.tab_table.specs.PartBytes.{part_of, offset_of}
use Rattle.tab_table.proofs.ByteWise.{byte_behind}
use Rattle.tab_table.proofs.Inside.{counts_inside}
use Rattle.tab_table.proofs.part_bytes.byte_on.Goals as goal

pub shared_at-count-requires : goal.shared_at-count-requires
shared_at-count-requires c = counts_inside c.args.blocks.now c.args.place c.requires

pub overflow_add-place : goal.overflow_add-place
overflow_add-place c = omega (arith, counts_inside c.args.blocks.now c.args.place c.requires)

pub returns : goal.returns
returns c = λ base e is.
    let blocks = c.args.blocks.now in
    let place = c.args.place in
    let part = c.args.part in
    let index = c.args.index in
    let count = c.shared_at-count.result in
    let rest = record_at blocks (place + 16) in
    let low : length_at blocks (place + offset_of part) ≤ index = omega (arith, c.shared_at-count.ensures.value, c.if-index-count.false) in
    c.byte_at.ensures
    ∙ ap (λ xs. get_or xs (index - count) 0) (c.of.ensures ∙ ap (λ (r : Record). part_of part r.key) c.at.ensures)
    ∙ ap (λ n. get_or (part_of part rest.key) (index - n) 0) c.shared_at-count.ensures.value
    ∙ sym (byte_behind part base blocks place index e low)
