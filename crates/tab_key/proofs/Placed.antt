-- Records at their places in a body, after the body has grown.
use Rattle.std.proofs.Common.{◌≡◌, ℕ, zero, suc, ◌+◌, ◌<◌, ◌≤◌, List, [], ◌∷◌, ◌++◌, sym, ◌∙◌, ap, subst, length, take, drop, map, arith, get_or}
use Rattle.std.specs.Int.{w32, w64, from_be_bytes, cast_signed}
use Rattle.std.specs.List.{AllByRecursion, slice_index, slice_index_or}
use Rattle.std.proofs.Math.ListN.{get_or-append}
use Rattle.std.proofs.lemmas.List.{take-append-drop, length-map, get_or-map}
use Rattle.tab_key.specs.Encoding.{length_at, number_at, kind_of, span_at, record_at, records_at, IsAt, AreAt, IsShort}
use Rattle.tab_key.specs.RecordSpans.{record_in, IsWithin}
use Rattle.tab_key.specs.Records.{Record}
use Rattle.tab_key.proofs.Bodies.{same_part, no_shorter, same_record, all_same, all_pushed, reads_pushed}

-- ---- one record
pub head_inside : (body : List ℕ) (p : ℕ) → IsAt body p → p + 41 ≤ length body
unfolding span_at
head_inside body p w = omega (arith, w.within.row, w.within.family, w.within.qualifier, w.within.label, w.within.value, w.within.whole)

same_length : (old new : List ℕ) (p : ℕ) → take (length old) new ≡ old → p + 4 ≤ length old → length_at new p ≡ length_at old p
unfolding length_at
same_length old new p front low = ap (from_be_bytes w32) (same_part old new front p (p + 4) (omega arith) low)

same_number : (old new : List ℕ) (p : ℕ) → take (length old) new ≡ old → p + 8 ≤ length old → number_at new p ≡ number_at old p
unfolding number_at
same_number old new p front low = ap (from_be_bytes w64) (same_part old new front p (p + 8) (omega arith) low)

same_byte : (old new : List ℕ) (p : ℕ) → take (length old) new ≡ old → p + 1 ≤ length old → slice_index new p ≡ slice_index old p
same_byte old new p front low =
    let grown : old ++ drop (length old) new ≡ new = subst (λ (xs : List ℕ). xs ++ drop (length old) new ≡ new) front (take-append-drop (length old) new) in
    ap (λ xs. get_or xs p 0) (sym grown) ∙ get_or-append old (drop (length old) new) 0 p (omega (arith, low))

pub same_span : (old new : List ℕ) (p : ℕ) → take (length old) new ≡ old → p + 41 ≤ length old → span_at new p ≡ span_at old p
unfolding span_at
same_span old new p front low =
    let row = same_length old new p front (omega (arith, low)) in
    let family = same_length old new (p + 4) front (omega (arith, low)) in
    let qualifier = same_length old new (p + 8) front (omega (arith, low)) in
    let label = same_length old new (p + 12) front (omega (arith, low)) in
    let value = same_length old new (p + 16) front (omega (arith, low)) in
    let time = same_number old new (p + 20) front (omega (arith, low)) in
    let kind = same_byte old new (p + 28) front (omega (arith, low)) in
    let seq = same_number old new (p + 29) front (omega (arith, low)) in
    let idx = same_length old new (p + 37) front (omega (arith, low)) in
    λ j. record {
      start = p + 41;
      row_end = p + 41 + row j;
      family_end = p + 41 + row j + family j;
      qualifier_end = p + 41 + row j + family j + qualifier j;
      label_end = p + 41 + row j + family j + qualifier j + label j;
      end = p + 41 + row j + family j + qualifier j + label j + value j;
      timestamp = cast_signed w64 (time j);
      seq = seq j;
      idx = idx j;
      kind = kind_of (kind j);
    }

still_read : (old new : List ℕ) (p : ℕ) → take (length old) new ≡ old → IsAt old p → record_at new p ≡ record_at old p
still_read old new p front w = ap (record_in new) (same_span old new p front (head_inside old p w)) ∙ same_record old new (span_at old p) front w.within

still_at : (old new : List ℕ) (p : ℕ) → take (length old) new ≡ old → IsAt old p → IsAt new p
still_at old new p front w =
    let longer : length old ≤ length new = no_shorter old new front in
    let old_one = w.within in
    record {
      within = subst (IsWithin new) (sym (same_span old new p front (head_inside old p w))) (record { row = old_one.row; family = old_one.family; qualifier = old_one.qualifier; label = old_one.label; value = old_one.value; whole = omega (arith, longer, old_one.whole) });
      short = subst IsShort (sym (still_read old new p front w)) w.short;
    }

-- ---- many
pub same_records : (old new places : List ℕ) → take (length old) new ≡ old → AreAt old places → records_at new places ≡ records_at old places
same_records = all_same IsAt record_at still_read still_at

-- one more record: in the grown body all lie there, and the records are those from before and the new one
pub pushed_at : (old new places now : List ℕ) (p : ℕ) → now ≡ places ++ p ∷ [] → take (length old) new ≡ old → AreAt old places → IsAt new p → AreAt new now
pushed_at = all_pushed IsAt record_at still_read still_at

pub pushed_records : (old new places now : List ℕ) (p : ℕ) (r : Record) → now ≡ places ++ p ∷ [] → take (length old) new ≡ old → AreAt old places → record_at new p ≡ r → records_at new now ≡ records_at old places ++ r ∷ []
pushed_records = reads_pushed IsAt record_at still_read still_at

-- ---- the record at an index
at_index : (P : ℕ → Type 0) (ps : List ℕ) → AllByRecursion P ps → (i d : ℕ) → i < length ps → P (get_or ps i d)
at_index P [] a i d low = absurd (omega (arith, low))
at_index P (p ∷ ps) a zero d low = a.0
at_index P (p ∷ ps) a (suc i) d low = at_index P ps a.1 i d (omega (arith, low))

pub there_at : (body places : List ℕ) (i : ℕ) → AreAt body places → i < length (records_at body places) → IsAt body (slice_index places i)
there_at body places i w lt =
    let low : i < length places = omega (arith, lt, length-map places (record_at body)) in
    at_index (IsAt body) places w i 0 low

pub record_there : (body places : List ℕ) (i : ℕ) (u : Record) → i < length (records_at body places) → record_at body (slice_index places i) ≡ slice_index_or (records_at body places) i u
record_there body places i u lt =
    let low : i < length places = omega (arith, lt, length-map places (record_at body)) in
    sym (get_or-map (record_at body) places i 0 u low)
