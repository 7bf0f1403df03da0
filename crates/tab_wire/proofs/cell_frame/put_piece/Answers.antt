-- The length in front of the bytes.
use Rattle.std.proofs.Common.{◌≡◌, ◌++◌, ◌∙◌, ◌%◌, ◌^◌, length, take, ap, subst, rules, refl}
use Rattle.tab_io.specs.Writing.{Puts}
use Rattle.tab_io.proofs.Putting.{puts}
use Rattle.tab_wire.specs.Replies.{u32, field}
use Rattle.tab_wire.proofs.CellLengths.{with_lead}
use Rattle.tab_codec.proofs.Lengths.{low_bytes}
use Rattle.tab_wire.proofs.cell_frame.put_piece.Goals as goal

pub returns : goal.returns
returns g c =
    let text = c.args.piece.now in
    let lead : c.four_bytes.result ≡ u32 (length text) = c.four_bytes.ensures ∙ ap u32 (c.low.ensures ∙ ap (λ n. n % 2 ^ 32) c.len.ensures) ∙ low_bytes (length text) in
    let front : take c.len-2.result c.onward.result.now ≡ text = search rules in
    let same = with_lead c.four_bytes.result c.onward.result.now (field text) (u32 (length text)) text c.len-2.result lead front refl in
    subst (λ t. Puts g.W.Output c.args.output.now c.put_front.new.self t c.put_front.result) same (puts g.W.Output c.args.output.now c.put_front.new.self (c.four_bytes.result ++ take c.len-2.result c.onward.result.now) c.put_front.result c.put_front.ensures.bytes c.put_front.ensures.faults)
