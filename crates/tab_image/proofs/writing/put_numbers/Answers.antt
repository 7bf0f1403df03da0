use Rattle.std.proofs.Common.{rules, ◌≡◌, ◌++◌, ℕ, List, subst}
use Rattle.tab_io.specs.Writing.{HasPut, HasPutPart}
use Rattle.tab_io.proofs.Putting.{puts_more, part_longer}
use Rattle.tab_codec.specs.Parts.{kind_byte}
use Rattle.tab_image.specs.Spelling.{u8, i64, u32, u64, field}
use Rattle.tab_image.proofs.WritingLemmas.{second_fails}
use Rattle.tab_image.proofs.writing.put_numbers.Goals as goal

pub returns-in_err-put_byte : goal.returns-in_err-put_byte
returns-in_err-put_byte g c =
    let byte : c.rank.result ≡ kind_byte c.args.record.now.kind = search rules in
    let behind : List ℕ = u64 c.args.record.now.seq ++ (u32 c.args.record.now.idx ++ field c.args.record.now.value) in
    let part : HasPutPart g.W.Output c.args.output.now c.put_byte.new.output (i64 c.args.record.now.key.timestamp ++ (u8 (kind_byte c.args.record.now.kind) ++ behind)) = second_fails g.W.Output _ _ _ _ _ behind c.in_ok-put_timestamp.ensures
    (subst (λ (n : ℕ). HasPutPart g.W.Output c.put_timestamp.new.output c.put_byte.new.output (u8 n)) byte c.in_err-put_byte.ensures) in
    search (rules, part)

pub returns-in_err-put_timestamp : goal.returns-in_err-put_timestamp
returns-in_err-put_timestamp g c =
    let behind : List ℕ = u8 (kind_byte c.args.record.now.kind) ++ (u64 c.args.record.now.seq ++ (u32 c.args.record.now.idx ++ field c.args.record.now.value)) in
    let part : HasPutPart g.W.Output c.args.output.now c.put_timestamp.new.output (i64 c.args.record.now.key.timestamp ++ behind) = part_longer {t = i64 c.args.record.now.key.timestamp} behind c.in_err-put_timestamp.ensures in
    search (rules, part)

pub returns : goal.returns
returns g c =
    let byte : c.rank.result ≡ kind_byte c.args.record.now.kind = search rules in
    let behind : List ℕ = u64 c.args.record.now.seq ++ (u32 c.args.record.now.idx ++ field c.args.record.now.value) in
    puts_more g.W.Output c.args.output.now c.put_timestamp.new.output c.put_place.new.output (i64 c.args.record.now.key.timestamp) (u8 (kind_byte c.args.record.now.kind) ++ behind) c.put_place.result c.in_ok-put_timestamp.ensures
    (puts_more g.W.Output c.put_timestamp.new.output c.put_byte.new.output c.put_place.new.output (u8 (kind_byte c.args.record.now.kind)) behind c.put_place.result
    (subst (λ (n : ℕ). HasPut g.W.Output c.put_timestamp.new.output c.put_byte.new.output (u8 n)) byte c.in_ok-put_byte.ensures) c.put_place.ensures)
