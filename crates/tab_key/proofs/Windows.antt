-- A record is read alike wherever its bytes lie.
use Rattle.std.proofs.Common.{◌≡◌, ℕ, ◌+◌, ◌-◌, ◌≤◌, List, ◌++◌, refl, sym, ◌∙◌, ap, subst, length, take, drop, arith}
use Rattle.std.specs.Int.{w32, w64, from_be_bytes, cast_signed}
use Rattle.std.specs.List.{slice_range, slice_index}
use Rattle.std.proofs.Math.Seq.{drop-append_seam}
use Rattle.std.proofs.lemmas.List.{drop-drop, get_or-drop, length-append, length-drop, length-take-le}
use Rattle.tab_key.specs.Encoding.{length_at, number_at, kind_of, span_at, record_at, IsAt, IsShort, record_size}
use Rattle.tab_key.specs.RecordSpans.{record_in, IsWithin}
use Rattle.tab_key.specs.Records.{Record}
use Rattle.tab_key.specs.declared.record_span.RecordSpan.{RecordSpan}
use Rattle.tab_key.proofs.Placed.{head_inside, same_span}
use Rattle.tab_key.proofs.Bodies.{same_record}

-- ---- what lies behind the first p bytes
module _ (body : List ℕ) (p : ℕ) where
  tail_part : (a b i j : ℕ) → a ≡ p + i → b ≡ p + j → slice_range (drop p body) i j ≡ slice_range body a b
  tail_part a b i j e f =
      let width : j - i ≡ b - a = omega (arith, e, f) in
      ap (take (j - i)) (drop-drop i p body) ∙ ap (λ n. take (j - i) (drop n body)) (sym e) ∙ ap (λ n. take n (drop a body)) width

  tail_length : (a i : ℕ) → a ≡ p + i → length_at (drop p body) i ≡ length_at body a
  unfolding length_at
  tail_length a i e = ap (from_be_bytes w32) (tail_part a (a + 4) i (i + 4) e (omega (arith, e)))

  tail_number : (a i : ℕ) → a ≡ p + i → number_at (drop p body) i ≡ number_at body a
  unfolding number_at
  tail_number a i e = ap (from_be_bytes w64) (tail_part a (a + 8) i (i + 8) e (omega (arith, e)))

  tail_byte : (a i : ℕ) → a ≡ p + i → slice_index (drop p body) i ≡ slice_index body a
  tail_byte a i e = get_or-drop p body i 0 ∙ ap (slice_index body) (sym e)

  -- the record there
  pub tail_record : record_at (drop p body) 0 ≡ record_at body p
  unfolding span_at
  tail_record =
      let l0 = tail_length p 0 (omega arith) in
      let l1 = tail_length (p + 4) 4 refl in
      let l2 = tail_length (p + 8) 8 refl in
      let l3 = tail_length (p + 12) 12 refl in
      let l4 = tail_length (p + 16) 16 refl in
      let time = ap (cast_signed w64) (tail_number (p + 20) 20 refl) in
      let kind = ap kind_of (tail_byte (p + 28) 28 refl) in
      let seq = tail_number (p + 29) 29 refl in
      let idx = tail_length (p + 37) 37 refl in
      let here = span_at body p in
      let there = span_at (drop p body) 0 in
      let row = tail_part here.start here.row_end there.start there.row_end refl (omega (arith, l0)) in
      let family = tail_part here.row_end here.family_end there.row_end there.family_end (omega (arith, l0)) (omega (arith, l0, l1)) in
      let qualifier = tail_part here.family_end here.qualifier_end there.family_end there.qualifier_end (omega (arith, l0, l1)) (omega (arith, l0, l1, l2)) in
      let label = tail_part here.qualifier_end here.label_end there.qualifier_end there.label_end (omega (arith, l0, l1, l2)) (omega (arith, l0, l1, l2, l3)) in
      let value = tail_part here.label_end here.end there.label_end there.end (omega (arith, l0, l1, l2, l3)) (omega (arith, l0, l1, l2, l3, l4)) in
      λ j. record {
        key = record { row = row j; family = family j; qualifier = qualifier j; label = label j; timestamp = time j };
        kind = kind j;
        value = value j;
        seq = seq j;
        idx = idx j;
      }

  -- where it ends
  pub tail_end : (span_at body p).end ≡ p + (span_at (drop p body) 0).end
  unfolding span_at
  tail_end = omega (arith, tail_length p 0 (omega arith), tail_length (p + 4) 4 refl, tail_length (p + 8) 8 refl, tail_length (p + 12) 12 refl, tail_length (p + 16) 16 refl)

-- whatever a head says, its ends rise
ends_rise : (body : List ℕ) (p : ℕ) → (span_at body p).end ≤ length body → IsWithin body (span_at body p)
unfolding span_at
ends_rise body p low = record { row = omega arith; family = omega arith; qualifier = omega arith; label = omega arith; value = omega arith; whole = low }

pub ends_behind : (body : List ℕ) (p : ℕ) → p ≤ (span_at body p).end
unfolding span_at
ends_behind body p = omega arith

-- ---- a record's own bytes
module _ (body : List ℕ) (p : ℕ) (w : IsAt body p) where
  abbrev piece : List ℕ
  piece = slice_range body p (span_at body p).end

  abbrev rest : List ℕ
  rest = drop p body

  piece_long : length piece ≡ (span_at body p).end - p
  piece_long = length-take-le ((span_at body p).end - p) rest (omega (arith, w.within.whole, length-drop p body))

  piece_front : take (length piece) rest ≡ piece
  piece_front = ap (λ n. take n rest) piece_long

  head_long : 41 ≤ length piece
  unfolding span_at
  head_long = omega (arith, piece_long)

  piece_span : span_at rest 0 ≡ span_at piece 0
  piece_span = same_span piece rest 0 piece_front head_long

  piece_end : (span_at piece 0).end ≡ length piece
  piece_end = omega (arith, ap (λ (s : RecordSpan). s.end) piece_span, tail_end body p, piece_long, head_long)

  piece_within : IsWithin piece (span_at piece 0)
  piece_within = ends_rise piece 0 (omega (arith, piece_end))

  pub piece_record : record_at piece 0 ≡ record_at body p
  piece_record = sym (ap (record_in rest) piece_span ∙ same_record piece rest (span_at piece 0) piece_front piece_within) ∙ tail_record body p

  pub piece_at : IsAt piece 0
  piece_at = record { within = piece_within; short = subst IsShort (sym piece_record) w.short }

  part_long : (a b : ℕ) → b ≤ length body → length (slice_range body a b) ≡ b - a
  part_long a b low = length-take-le (b - a) (drop a body) (omega (arith, length-drop a body))

  pub piece_size : length piece ≡ record_size (record_at body p)
  unfolding span_at
  piece_size =
      let s = span_at body p in
      let in_it = w.within in
      let row = part_long s.start s.row_end (omega (arith, in_it.family, in_it.qualifier, in_it.label, in_it.value, in_it.whole)) in
      let family = part_long s.row_end s.family_end (omega (arith, in_it.qualifier, in_it.label, in_it.value, in_it.whole)) in
      let qualifier = part_long s.family_end s.qualifier_end (omega (arith, in_it.label, in_it.value, in_it.whole)) in
      let label = part_long s.qualifier_end s.label_end (omega (arith, in_it.value, in_it.whole)) in
      let value = part_long s.label_end s.end in_it.whole in
      omega (arith, piece_long, row, family, qualifier, label, value)

-- ---- put behind others
module _ (old piece : List ℕ) (w : IsAt piece 0) where
  behind : drop (length old) (old ++ piece) ≡ piece
  behind = drop-append_seam old piece

  pub put_record : record_at (old ++ piece) (length old) ≡ record_at piece 0
  put_record = sym (tail_record (old ++ piece) (length old)) ∙ ap (λ b. record_at b 0) behind

  pub put_at : IsAt (old ++ piece) (length old)
  put_at = record {
    within = ends_rise (old ++ piece) (length old) (omega (arith, tail_end (old ++ piece) (length old), ap (λ (b : List ℕ). (span_at b 0).end) behind, w.within.whole, length-append old piece));
    short = subst IsShort (sym put_record) w.short;
  }
