use Rattle.std.proofs.Common.{rules, ◌≡◌, ◌++◌, ℕ, List, subst, refl}
use Rattle.tab_io.specs.Writing.{HasPut, HasPutPart}
use Rattle.tab_io.proofs.Putting.{puts_more, part_longer}
use Rattle.tab_key.specs.Records.{Record}
use Rattle.tab_codec.specs.Parts.{kind_byte}
use Rattle.tab_image.specs.Spelling.{u8, u32, u64, i64, field, record_bytes}
use Rattle.tab_image.proofs.WritingLemmas.{second_fails, third_fails, fourth_fails}
use Rattle.tab_image.proofs.writing.put_record.Goals as goal

-- what is put behind the label
abbrev behind_label : Record → List ℕ
behind_label r = i64 r.key.timestamp ++ (u8 (kind_byte r.kind) ++ (u64 r.seq ++ (u32 r.idx ++ field r.value)))

-- a record's bytes, part by part
all_parts : (r : Record) → field r.key.row ++ (field r.key.family ++ (field r.key.qualifier ++ (field r.key.label ++ behind_label r))) ≡ record_bytes r
unfolding record_bytes
all_parts r = refl

pub returns-in_err-put_field-2 : goal.returns-in_err-put_field-2
returns-in_err-put_field-2 g c =
    let part = subst (λ (t : List ℕ). HasPutPart g.W.Output c.args.output.now c.put_field-2.new.output t) (all_parts c.args.record.now) (second_fails g.W.Output _ _ _ _ _ (field c.args.record.now.key.qualifier ++ (field c.args.record.now.key.label ++ behind_label c.args.record.now))
    (subst (λ (t : List ℕ). HasPut g.W.Output c.args.output.now c.put_field.new.output (field t)) c.row.ensures c.in_ok-put_field.ensures)
    (subst (λ (t : List ℕ). HasPutPart g.W.Output c.put_field.new.output c.put_field-2.new.output (field t)) c.family.ensures c.in_err-put_field-2.ensures)) in
    search (rules, part)

pub returns-in_err-put_field-3 : goal.returns-in_err-put_field-3
returns-in_err-put_field-3 g c =
    let part = subst (λ (t : List ℕ). HasPutPart g.W.Output c.args.output.now c.put_field-3.new.output t) (all_parts c.args.record.now) (third_fails g.W.Output _ _ _ _ _ _ _ (field c.args.record.now.key.label ++ behind_label c.args.record.now)
    (subst (λ (t : List ℕ). HasPut g.W.Output c.args.output.now c.put_field.new.output (field t)) c.row.ensures c.in_ok-put_field.ensures)
    (subst (λ (t : List ℕ). HasPut g.W.Output c.put_field.new.output c.put_field-2.new.output (field t)) c.family.ensures c.in_ok-put_field-2.ensures)
    (subst (λ (t : List ℕ). HasPutPart g.W.Output c.put_field-2.new.output c.put_field-3.new.output (field t)) c.qualifier.ensures c.in_err-put_field-3.ensures)) in
    search (rules, part)

pub returns-in_err-put_field-4 : goal.returns-in_err-put_field-4
returns-in_err-put_field-4 g c =
    let part = subst (λ (t : List ℕ). HasPutPart g.W.Output c.args.output.now c.put_field-4.new.output t) (all_parts c.args.record.now) (fourth_fails g.W.Output _ _ _ _ _ _ _ _ _ (behind_label c.args.record.now)
    (subst (λ (t : List ℕ). HasPut g.W.Output c.args.output.now c.put_field.new.output (field t)) c.row.ensures c.in_ok-put_field.ensures)
    (subst (λ (t : List ℕ). HasPut g.W.Output c.put_field.new.output c.put_field-2.new.output (field t)) c.family.ensures c.in_ok-put_field-2.ensures)
    (subst (λ (t : List ℕ). HasPut g.W.Output c.put_field-2.new.output c.put_field-3.new.output (field t)) c.qualifier.ensures c.in_ok-put_field-3.ensures)
    (subst (λ (t : List ℕ). HasPutPart g.W.Output c.put_field-3.new.output c.put_field-4.new.output (field t)) c.label.ensures c.in_err-put_field-4.ensures)) in
    search (rules, part)

pub returns-in_err-put_field : goal.returns-in_err-put_field
unfolding record_bytes
returns-in_err-put_field g c =
    let part : HasPutPart g.W.Output c.args.output.now c.put_field.new.output (record_bytes c.args.record.now) = part_longer {t = field c.args.record.now.key.row} (field c.args.record.now.key.family ++ (field c.args.record.now.key.qualifier ++ (field c.args.record.now.key.label ++ behind_label c.args.record.now)))
    (subst (λ (t : List ℕ). HasPutPart g.W.Output c.args.output.now c.put_field.new.output (field t)) c.row.ensures c.in_err-put_field.ensures) in
    search (rules, part)

pub returns : goal.returns
unfolding record_bytes
returns g c =
    puts_more g.W.Output c.args.output.now c.put_field.new.output c.put_numbers.new.output (field c.args.record.now.key.row) (field c.args.record.now.key.family ++ (field c.args.record.now.key.qualifier ++ (field c.args.record.now.key.label ++ behind_label c.args.record.now))) c.put_numbers.result
    (subst (λ (t : List ℕ). HasPut g.W.Output c.args.output.now c.put_field.new.output (field t)) c.row.ensures c.in_ok-put_field.ensures)
    (puts_more g.W.Output c.put_field.new.output c.put_field-2.new.output c.put_numbers.new.output (field c.args.record.now.key.family) (field c.args.record.now.key.qualifier ++ (field c.args.record.now.key.label ++ behind_label c.args.record.now)) c.put_numbers.result
    (subst (λ (t : List ℕ). HasPut g.W.Output c.put_field.new.output c.put_field-2.new.output (field t)) c.family.ensures c.in_ok-put_field-2.ensures)
    (puts_more g.W.Output c.put_field-2.new.output c.put_field-3.new.output c.put_numbers.new.output (field c.args.record.now.key.qualifier) (field c.args.record.now.key.label ++ behind_label c.args.record.now) c.put_numbers.result
    (subst (λ (t : List ℕ). HasPut g.W.Output c.put_field-2.new.output c.put_field-3.new.output (field t)) c.qualifier.ensures c.in_ok-put_field-3.ensures)
    (puts_more g.W.Output c.put_field-3.new.output c.put_field-4.new.output c.put_numbers.new.output (field c.args.record.now.key.label) (behind_label c.args.record.now) c.put_numbers.result
    (subst (λ (t : List ℕ). HasPut g.W.Output c.put_field-3.new.output c.put_field-4.new.output (field t)) c.label.ensures c.in_ok-put_field-4.ensures)
    c.put_numbers.ensures)))
