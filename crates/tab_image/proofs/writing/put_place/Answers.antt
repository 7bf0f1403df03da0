use Rattle.std.proofs.Common.{rules, ◌≡◌, ◌++◌, ℕ, List, subst}
use Rattle.tab_io.specs.Writing.{HasPut, HasPutPart, Puts}
use Rattle.tab_io.proofs.Putting.{puts_more, part_longer}
use Rattle.tab_image.specs.Spelling.{u32, u64, field}
use Rattle.tab_image.proofs.WritingLemmas.{second_fails}
use Rattle.tab_image.proofs.writing.put_place.Goals as goal

pub returns-in_err-put_number : goal.returns-in_err-put_number
returns-in_err-put_number g c =
    let idx : c.idx.result ≡ c.args.record.now.idx = search rules in
    let part : HasPutPart g.W.Output c.args.output.now c.put_number.new.output (u64 c.args.record.now.seq ++ (u32 c.args.record.now.idx ++ field c.args.record.now.value)) = second_fails g.W.Output _ _ _ _ _ (field c.args.record.now.value)
    (subst (λ (n : ℕ). HasPut g.W.Output c.args.output.now c.put_long.new.output (u64 n)) c.seq.ensures c.in_ok-put_long.ensures)
    (subst (λ (n : ℕ). HasPutPart g.W.Output c.put_long.new.output c.put_number.new.output (u32 n)) idx c.in_err-put_number.ensures) in
    search (rules, part)

pub returns-in_err-put_long : goal.returns-in_err-put_long
returns-in_err-put_long g c =
    let part : HasPutPart g.W.Output c.args.output.now c.put_long.new.output (u64 c.args.record.now.seq ++ (u32 c.args.record.now.idx ++ field c.args.record.now.value)) =
    part_longer {t = u64 c.args.record.now.seq} (u32 c.args.record.now.idx ++ field c.args.record.now.value) (subst (λ (n : ℕ). HasPutPart g.W.Output c.args.output.now c.put_long.new.output (u64 n)) c.seq.ensures c.in_err-put_long.ensures) in
    search (rules, part)

pub returns : goal.returns
returns g c =
    let idx : c.idx.result ≡ c.args.record.now.idx = search rules in
    puts_more g.W.Output c.args.output.now c.put_long.new.output c.put_field.new.output (u64 c.args.record.now.seq) (u32 c.args.record.now.idx ++ field c.args.record.now.value) c.put_field.result
    (subst (λ (n : ℕ). HasPut g.W.Output c.args.output.now c.put_long.new.output (u64 n)) c.seq.ensures c.in_ok-put_long.ensures)
    (puts_more g.W.Output c.put_long.new.output c.put_number.new.output c.put_field.new.output (u32 c.args.record.now.idx) (field c.args.record.now.value) c.put_field.result
    (subst (λ (n : ℕ). HasPut g.W.Output c.put_long.new.output c.put_number.new.output (u32 n)) idx c.in_ok-put_number.ensures)
    (subst (λ (t : List ℕ). Puts g.W.Output c.put_number.new.output c.put_field.new.output (field t) c.put_field.result) c.value.ensures c.put_field.ensures))
