-- A record's parts, copied in one piece.
use Rattle.std.proofs.Common.{◌≡◌, ℕ, ◌+◌, ◌-◌, List, [], ◌++◌, ◌∙◌, ap, length, take, drop, arith, append_assoc, append-nil, length-append}
use Rattle.std.specs.List.{slice_range}
use Rattle.std.proofs.Math.Seq.{take-append_seam, drop-append_seam}
use Rattle.tab_key.specs.Records.{Record}
use Rattle.tab_key.specs.RecordSpans.{record_in, IsWithin, packed}
use Rattle.tab_key.specs.declared.record_span.RecordSpan.{RecordSpan}

pub part_of : (xs pre part post : List ℕ) (i j : ℕ) → xs ≡ pre ++ part ++ post → i ≡ length pre → j ≡ i + length part → slice_range xs i j ≡ part
part_of xs pre part post i j e low high =
    let width : j - i ≡ length part = omega (arith, high) in
    let rest : drop i xs ≡ part ++ post = ap (drop i) (e ∙ append_assoc pre part post) ∙ ap (λ n. drop n (pre ++ (part ++ post))) low ∙ drop-append_seam pre (part ++ post) in
    ap (λ n. take n (drop i xs)) width ∙ ap (take (length part)) rest ∙ take-append_seam part post

pub length-packed : (r : Record) → length (packed r) ≡ length r.key.row + length r.key.family + length r.key.qualifier + length r.key.label + length r.value
length-packed r = simp length-append

-- the ends are those of the parts, laid out from the place's start
pub record LaysOut (old : List ℕ) (r : Record) (body : List ℕ) (p : RecordSpan) : Type 0 where
  pub whole : body ≡ old ++ packed r
  pub start : p.start ≡ length old
  pub row : p.row_end ≡ p.start + length r.key.row
  pub family : p.family_end ≡ p.row_end + length r.key.family
  pub qualifier : p.qualifier_end ≡ p.family_end + length r.key.qualifier
  pub label : p.label_end ≡ p.qualifier_end + length r.key.label
  pub value : p.end ≡ p.label_end + length r.value
  pub timestamp : p.timestamp ≡ r.key.timestamp
  pub kind : p.kind ≡ r.kind
  pub seq : p.seq ≡ r.seq
  pub idx : p.idx ≡ r.idx

pub laid_within : (old : List ℕ) (r : Record) (body : List ℕ) (p : RecordSpan) → LaysOut old r body p → IsWithin body p
laid_within old r body p l = record {
  row = omega (arith, l.row);
  family = omega (arith, l.family);
  qualifier = omega (arith, l.qualifier);
  label = omega (arith, l.label);
  value = omega (arith, l.value);
  whole = omega (arith, l.start, l.row, l.family, l.qualifier, l.label, l.value, ap length l.whole, length-append old (packed r), length-packed r);
}

pub laid_record : (old : List ℕ) (r : Record) (body : List ℕ) (p : RecordSpan) → LaysOut old r body p → record_in body p ≡ r
laid_record old r body p l =
    let k = r.key in
    let row = part_of body old k.row (k.family ++ k.qualifier ++ k.label ++ r.value) p.start p.row_end (l.whole ∙ simp append_assoc) l.start l.row in
    let family = part_of body (old ++ k.row) k.family (k.qualifier ++ k.label ++ r.value) p.row_end p.family_end (l.whole ∙ simp append_assoc) (simp length-append (omega (arith, l.start, l.row))) l.family in
    let qualifier = part_of body (old ++ k.row ++ k.family) k.qualifier (k.label ++ r.value) p.family_end p.qualifier_end (l.whole ∙ simp append_assoc) (simp length-append (omega (arith, l.start, l.row, l.family))) l.qualifier in
    let label = part_of body (old ++ k.row ++ k.family ++ k.qualifier) k.label r.value p.qualifier_end p.label_end (l.whole ∙ simp append_assoc) (simp length-append (omega (arith, l.start, l.row, l.family, l.qualifier))) l.label in
    let value = part_of body (old ++ k.row ++ k.family ++ k.qualifier ++ k.label) r.value [] p.label_end p.end (l.whole ∙ simp (append_assoc, append-nil)) (simp length-append (omega (arith, l.start, l.row, l.family, l.qualifier, l.label))) l.value in
    λ i. record {
      key = record { row = row i; family = family i; qualifier = qualifier i; label = label i; timestamp = l.timestamp i };
      kind = l.kind i;
      value = value i;
      seq = l.seq i;
      idx = l.idx i;
    }
