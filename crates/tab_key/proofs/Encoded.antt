-- A record that was put into a body is read again.
use Rattle.std.proofs.Common.{◌≡◌, ℕ, ◌+◌, ◌<◌, ◌≤◌, ◌^◌, List, [], ◌∷◌, ◌++◌, refl, sym, subst, ◌∙◌, ap, length, arith, append_assoc, length-append}
use Rattle.std.specs.List.{slice_range, slice_index}
use Rattle.std.specs.Int.{w32, w64, from_be_bytes, cast_signed, cast_unsigned}
use Rattle.std.proofs.lemmas.Nat.{from_be_bytes-to_be_bytes_4, from_be_bytes-to_be_bytes_8}
use Rattle.std.proofs.lemmas.Int.{to_z-of_z}
use Rattle.tab_key.specs.Records.{Record}
use Rattle.tab_key.specs.RecordSpans.{packed}
use Rattle.tab_key.proofs.Packed.{LaysOut, laid_within, laid_record, length-packed}
use Rattle.tab_key.specs.Encoding.{length_at, number_at, kind_of, span_at, record_at, IsAt, four_bytes, eight_bytes, lengths, numbers, encoded, record_size, IsShort, FitsNumbers}
use Rattle.tab_key.proofs.Slices.{first_length, second_length, third_length, fourth_length, fifth_length, time_there, kind_there, seq_there, idx_there, head_long}

four_long : (n : ℕ) → length (four_bytes n) ≡ 4
unfolding four_bytes
four_long n = refl

eight_long : (n : ℕ) → length (eight_bytes n) ≡ 8
unfolding eight_bytes
eight_long n = refl

length_read : (body : List ℕ) (p n : ℕ) → slice_range body p (p + 4) ≡ four_bytes n → n < 2 ^ 32 → length_at body p ≡ n
unfolding length_at four_bytes
length_read body p n is low = ap (from_be_bytes w32) is ∙ from_be_bytes-to_be_bytes_4 n low

number_read : (body : List ℕ) (p n : ℕ) → slice_range body p (p + 8) ≡ eight_bytes n → n < 2 ^ 64 → number_at body p ≡ n
unfolding number_at eight_bytes
number_read body p n is low = ap (from_be_bytes w64) is ∙ from_be_bytes-to_be_bytes_8 n low

module _ (old body : List ℕ) (mark : ℕ) (r : Record) (kind_is : kind_of mark ≡ r.kind) (is : body ≡ old ++ encoded mark r) (short : IsShort r) (fits : FitsNumbers r.key.timestamp r.seq r.idx) where
  abbrev a : List ℕ
  a = four_bytes (length r.key.row)

  abbrev b : List ℕ
  b = four_bytes (length r.key.family)

  abbrev c : List ℕ
  c = four_bytes (length r.key.qualifier)

  abbrev d : List ℕ
  d = four_bytes (length r.key.label)

  abbrev e : List ℕ
  e = four_bytes (length r.value)

  abbrev t : List ℕ
  t = eight_bytes (cast_unsigned w64 r.key.timestamp)

  abbrev s : List ℕ
  s = eight_bytes r.seq

  abbrev i : List ℕ
  i = four_bytes r.idx

  abbrev at : ℕ
  at = length old

  -- what the words of the head say
  row_says : length_at body at ≡ length r.key.row
  row_says = length_read body at (length r.key.row) (first_length old a b c d e t mark s i (packed r) body is (four_long _) (four_long _) (four_long _) (four_long _) (four_long _) (eight_long _) (eight_long _) (four_long _)) (omega (arith, short.row))

  family_says : length_at body (at + 4) ≡ length r.key.family
  family_says = length_read body (at + 4) (length r.key.family) (second_length old a b c d e t mark s i (packed r) body is (four_long _) (four_long _) (four_long _) (four_long _) (four_long _) (eight_long _) (eight_long _) (four_long _)) (omega (arith, short.family))

  qualifier_says : length_at body (at + 8) ≡ length r.key.qualifier
  qualifier_says = length_read body (at + 8) (length r.key.qualifier) (third_length old a b c d e t mark s i (packed r) body is (four_long _) (four_long _) (four_long _) (four_long _) (four_long _) (eight_long _) (eight_long _) (four_long _)) (omega (arith, short.qualifier))

  label_says : length_at body (at + 12) ≡ length r.key.label
  label_says = length_read body (at + 12) (length r.key.label) (fourth_length old a b c d e t mark s i (packed r) body is (four_long _) (four_long _) (four_long _) (four_long _) (four_long _) (eight_long _) (eight_long _) (four_long _)) (omega (arith, short.label))

  value_says : length_at body (at + 16) ≡ length r.value
  value_says = length_read body (at + 16) (length r.value) (fifth_length old a b c d e t mark s i (packed r) body is (four_long _) (four_long _) (four_long _) (four_long _) (four_long _) (eight_long _) (eight_long _) (four_long _)) (omega (arith, short.value))

  time_says : number_at body (at + 20) ≡ cast_unsigned w64 r.key.timestamp
  time_says = number_read body (at + 20) (cast_unsigned w64 r.key.timestamp) (time_there old a b c d e t mark s i (packed r) body is (four_long _) (four_long _) (four_long _) (four_long _) (four_long _) (eight_long _) (eight_long _) (four_long _)) fits.bits

  kind_says : kind_of (slice_index body (at + 28)) ≡ r.kind
  kind_says = ap kind_of (kind_there old a b c d e t mark s i (packed r) body is (four_long _) (four_long _) (four_long _) (four_long _) (four_long _) (eight_long _) (eight_long _) (four_long _)) ∙ kind_is

  seq_says : number_at body (at + 29) ≡ r.seq
  seq_says = number_read body (at + 29) r.seq (seq_there old a b c d e t mark s i (packed r) body is (four_long _) (four_long _) (four_long _) (four_long _) (four_long _) (eight_long _) (eight_long _) (four_long _)) fits.seq_bits

  idx_says : length_at body (at + 37) ≡ r.idx
  idx_says = length_read body (at + 37) r.idx (idx_there old a b c d e t mark s i (packed r) body is (four_long _) (four_long _) (four_long _) (four_long _) (four_long _) (eight_long _) (eight_long _) (four_long _)) fits.idx_bits

  head_there : length (old ++ (lengths r ++ numbers mark r)) ≡ at + 41
  head_there = head_long old a b c d e t mark s i (packed r) body is (four_long _) (four_long _) (four_long _) (four_long _) (four_long _) (eight_long _) (eight_long _) (four_long _)

  laid : LaysOut (old ++ (lengths r ++ numbers mark r)) r body (span_at body at)
  unfolding span_at
  laid = record {
    whole = is ∙ sym (append_assoc old (lengths r ++ numbers mark r) (packed r));
    start = sym head_there;
    row = omega (arith, row_says);
    family = omega (arith, family_says);
    qualifier = omega (arith, qualifier_says);
    label = omega (arith, label_says);
    value = omega (arith, value_says);
    timestamp = ap (cast_signed w64) time_says ∙ to_z-of_z w64 r.key.timestamp fits.signed;
    kind = kind_says;
    seq = seq_says;
    idx = idx_says;
  }

  pub encoded_record : record_at body at ≡ r
  encoded_record = laid_record (old ++ (lengths r ++ numbers mark r)) r body (span_at body at) laid

  pub encoded_at : IsAt body at
  encoded_at = record { within = laid_within (old ++ (lengths r ++ numbers mark r)) r body (span_at body at) laid; short = subst IsShort (sym encoded_record) short }

  -- it ends where the body ends
  pub encoded_end : (span_at body at).end ≡ length body
  encoded_end =
      let whole = ap length is ∙ ap length (sym (append_assoc old (lengths r ++ numbers mark r) (packed r))) ∙ length-append (old ++ (lengths r ++ numbers mark r)) (packed r) in
      omega (arith, whole, laid.start, laid.row, laid.family, laid.qualifier, laid.label, laid.value, length-packed r)

  pub encoded_length : length body ≡ length old + record_size r
  encoded_length =
      let whole = ap length is ∙ ap length (sym (append_assoc old (lengths r ++ numbers mark r) (packed r))) ∙ length-append (old ++ (lengths r ++ numbers mark r)) (packed r) in
      omega (arith, whole, head_there, length-packed r)
