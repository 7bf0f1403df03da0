-- The timestamp and the value's length in front of the value.
use Rattle.std.proofs.Common.{◌≡◌, ◌++◌, ◌∙◌, ◌%◌, ◌^◌, length, take, ap, subst, rules, append_assoc, to_z, of_z, w64}
use Rattle.tab_io.specs.Writing.{Puts}
use Rattle.tab_io.proofs.Putting.{puts}
use Rattle.tab_wire.specs.Replies.{u32, i64, field}
use Rattle.tab_wire.proofs.CellLengths.{with_lead}
use Rattle.tab_codec.proofs.Lengths.{low_bytes}
use Rattle.tab_wire.proofs.cell_frame.put_behind_label.Goals as goal

pub returns : goal.returns
returns g c =
    let cell = c.args.cell.now in
    let value : c.value-value.result.now ≡ cell.value = c.value-value.ensures in
    let count : c.len-2.result ≡ length cell.value = search rules in
    let long : u32 c.low.result ≡ u32 (length cell.value) = ap u32 (c.low.ensures ∙ ap (λ n. n % 2 ^ 32) (c.len.ensures ∙ ap length value)) ∙ low_bytes (length cell.value) in
    let trip : to_z w64 (of_z w64 c.timestamp.result) ≡ c.timestamp.result = search rules in
    let lead : c.before_value-lead.result ≡ i64 cell.key.timestamp ++ u32 (length cell.value) =
    c.before_value-lead.ensures ∙ (λ i. i64 ((trip ∙ c.timestamp.ensures) i) ++ long i) in
    let front : take c.len-2.result c.onward.result.now ≡ cell.value = search rules in
    let same = with_lead c.before_value-lead.result c.onward.result.now (i64 cell.key.timestamp ++ field cell.value) (i64 cell.key.timestamp ++ u32 (length cell.value)) cell.value c.len-2.result lead front (append_assoc (i64 cell.key.timestamp) (u32 (length cell.value)) cell.value) in
    subst (λ t. Puts g.W.Output c.args.output.now c.put_front.new.self t c.put_front.result) same (puts g.W.Output c.args.output.now c.put_front.new.self (c.before_value-lead.result ++ take c.len-2.result c.onward.result.now) c.put_front.result c.put_front.ensures.bytes c.put_front.ensures.faults)
