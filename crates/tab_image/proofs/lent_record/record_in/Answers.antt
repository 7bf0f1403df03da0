-- A record is its parts, one behind another.
use Rattle.std.proofs.Common.{rules, ◌≡◌, ℤ, w64, to_z, of_z, sym, subst, arith}
use Rattle.tab_codec.specs.Parts.{IsBytes}
use Rattle.tab_image.specs.Laying.{Begins}
use Rattle.tab_image.proofs.FrontLemmas.{parts_whole, begins}
use Rattle.tab_image.proofs.RecordLemmas.{record_of}
use Rattle.tab_image.proofs.lent_record.record_in.Goals as goal

pub returns-clause-record : goal.returns-clause-record
returns-clause-record c =
    let time = c.in_ok-timestamp.timestamp in
    let same : to_z w64 (of_z w64 time) ≡ time = search rules in
    let fits : IsBytes c.args.bytes.now = λ i. omega (arith, c.type_inv.bytes i) in
    subst (λ (t : ℤ). Begins c.args.bytes.now (record_of c.in_ok-row.row.now c.in_ok-family.family.now c.in_ok-qualifier.qualifier.now c.in_ok-label.label.now t c.in_ok-kind.kind c.in_ok-seq.seq c.in_ok-idx.idx c.in_ok-value.value.now) c.in_ok-value.rest.now) (sym same)
    (begins _ _ _ fits (parts_whole _ _ _ _ _ _ _ _ _ _ _ _ _ _ _ _ _ _ _ c.in_ok-row.ensures.part c.in_ok-family.ensures.part c.in_ok-qualifier.ensures.part c.in_ok-label.ensures.part c.in_ok-timestamp.ensures c.in_ok-kind.ensures c.in_ok-seq.ensures c.in_ok-idx.ensures c.in_ok-value.ensures.part))
