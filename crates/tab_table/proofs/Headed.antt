-- A record whose head has the numbers of another one is read again.
use Rattle.std.proofs.Common.{◌≡◌, ℕ, ◌+◌, ◌-◌, ◌<◌, ◌≤◌, ◌^◌, List, [], ◌∷◌, ◌++◌, refl, sym, ◌∙◌, ap, subst, length, take, drop, get_or, arith, append_assoc, length-append}
use Rattle.std.specs.Int.{w32, w64, from_be_bytes, cast_signed}
use Rattle.std.specs.List.{slice_range, slice_index}
use Rattle.std.proofs.lemmas.List.{length-drop, length-take-le, drop-drop, get_or-drop}
use Rattle.std.proofs.lemmas.Nat.{from_be_bytes-to_be_bytes_4}
use Rattle.tab_key.specs.Encoding.{length_at, number_at, kind_of, span_at, record_at, four_bytes, IsAt, IsShort}
use Rattle.tab_key.specs.RecordSpans.{packed}
use Rattle.tab_key.specs.Records.{Record}
use Rattle.tab_key.proofs.Bodies.{same_part}
use Rattle.tab_key.proofs.Packed.{LaysOut, laid_within, laid_record, length-packed, part_of}
use Rattle.tab_key.proofs.Placed.{head_inside}
use Rattle.tab_table.specs.Blocks.{cut}

-- ---- bytes that lie alike are read alike
pub tail_part : (xs : List ℕ) (p a b i j : ℕ) → a ≡ p + i → b ≡ p + j → slice_range (drop p xs) i j ≡ slice_range xs a b
tail_part xs p a b i j e f =
    let width : j - i ≡ b - a = omega (arith, e, f) in
    ap (take (j - i)) (drop-drop i p xs) ∙ ap (λ n. take (j - i) (drop n xs)) (sym e) ∙ ap (λ n. take n (drop a xs)) width

pub middle : (xs : List ℕ) (p m a b i j : ℕ) → p + m ≤ length xs → a ≡ p + i → b ≡ p + j → i ≤ j → j ≤ m → slice_range xs a b ≡ slice_range (slice_range xs p (p + m)) i j
middle xs p m a b i j inside e f up few =
    let part : List ℕ = slice_range xs p (p + m) in
    let long : length part ≡ p + m - p = length-take-le (p + m - p) (drop p xs) (omega (arith, inside, length-drop p xs)) in
    let front : take (length part) (drop p xs) ≡ part = ap (λ n. take n (drop p xs)) long in
    sym (tail_part xs p a b i j e f) ∙ same_part part (drop p xs) front i j up (omega (arith, few, long))

module _ (xs ys : List ℕ) (p q m : ℕ) (same : slice_range xs p (p + m) ≡ slice_range ys q (q + m)) (here : p + m ≤ length xs) (there : q + m ≤ length ys) where
  pub alike : (a b c d i j : ℕ) → a ≡ p + i → b ≡ p + j → c ≡ q + i → d ≡ q + j → i ≤ j → j ≤ m → slice_range xs a b ≡ slice_range ys c d
  alike a b c d i j e f g h up few = middle xs p m a b i j here e f up few ∙ ap (λ l. slice_range l i j) same ∙ sym (middle ys q m c d i j there g h up few)

  pub length_alike : (a c i : ℕ) → a ≡ p + i → c ≡ q + i → i + 4 ≤ m → length_at xs a ≡ length_at ys c
  unfolding length_at
  length_alike a c i e g few = ap (from_be_bytes w32) (alike a (a + 4) c (c + 4) i (i + 4) e (omega (arith, e)) g (omega (arith, g)) (omega arith) few)

  pub number_alike : (a c i : ℕ) → a ≡ p + i → c ≡ q + i → i + 8 ≤ m → number_at xs a ≡ number_at ys c
  unfolding number_at
  number_alike a c i e g few = ap (from_be_bytes w64) (alike a (a + 8) c (c + 8) i (i + 8) e (omega (arith, e)) g (omega (arith, g)) (omega arith) few)

  pub byte_alike : (a c i : ℕ) → a ≡ p + i → c ≡ q + i → i + 1 ≤ m → slice_index xs a ≡ slice_index ys c
  byte_alike a c i e g few =
      let one : slice_range xs a (a + 1) ≡ slice_range ys c (c + 1) = alike a (a + 1) c (c + 1) i (i + 1) e (omega (arith, e)) g (omega (arith, g)) (omega arith) few in
      sym (first_byte xs a) ∙ ap (λ l. get_or l 0 0) one ∙ first_byte ys c
    where
      taken : (zs : List ℕ) → get_or (take 1 zs) 0 0 ≡ get_or zs 0 0
      taken [] = refl
      taken (z ∷ zs) = refl

      first_byte : (zs : List ℕ) (k : ℕ) → get_or (slice_range zs k (k + 1)) 0 0 ≡ slice_index zs k
      first_byte zs k =
          let one : k + 1 - k ≡ 1 = omega arith in
          let none : k + 0 ≡ k = omega arith in
          ap (λ n. get_or (take n (drop k zs)) 0 0) one ∙ taken (drop k zs) ∙ get_or-drop k zs 0 0 ∙ ap (λ n. get_or zs n 0) none

-- ---- a head that was written
four_long : (n : ℕ) → length (four_bytes n) ≡ 4
unfolding four_bytes
four_long n = refl

length_read : (body : List ℕ) (p n : ℕ) → slice_range body p (p + 4) ≡ four_bytes n → n < 2 ^ 32 → length_at body p ≡ n
unfolding length_at four_bytes
length_read body p n is low = ap (from_be_bytes w32) is ∙ from_be_bytes-to_be_bytes_4 n low

module _ (front whole numbers rest : List ℕ) (a b c d : ℕ) (is : whole ≡ front ++ ((four_bytes a ++ four_bytes b ++ four_bytes c ++ four_bytes d) ++ numbers) ++ rest) (long : length numbers ≡ 25) where
  abbrev p : ℕ
  p = length front

  pub row_written : a < 2 ^ 32 → length_at whole p ≡ a
  row_written low = length_read whole p a (part_of whole front (four_bytes a) (four_bytes b ++ four_bytes c ++ four_bytes d ++ numbers ++ rest) p (p + 4) (is ∙ simp append_assoc) refl (omega (arith, four_long a))) low

  pub family_written : b < 2 ^ 32 → length_at whole (p + 4) ≡ b
  family_written low = length_read whole (p + 4) b (part_of whole (front ++ four_bytes a) (four_bytes b) (four_bytes c ++ four_bytes d ++ numbers ++ rest) (p + 4) (p + 4 + 4) (is ∙ simp append_assoc) (simp length-append (omega (arith, four_long a))) (omega (arith, four_long b))) low

  pub qualifier_written : c < 2 ^ 32 → length_at whole (p + 8) ≡ c
  qualifier_written low = length_read whole (p + 8) c (part_of whole (front ++ four_bytes a ++ four_bytes b) (four_bytes c) (four_bytes d ++ numbers ++ rest) (p + 8) (p + 8 + 4) (is ∙ simp append_assoc) (simp length-append (omega (arith, four_long a, four_long b))) (omega (arith, four_long c))) low

  pub label_written : d < 2 ^ 32 → length_at whole (p + 12) ≡ d
  label_written low = length_read whole (p + 12) d (part_of whole (front ++ four_bytes a ++ four_bytes b ++ four_bytes c) (four_bytes d) (numbers ++ rest) (p + 12) (p + 12 + 4) (is ∙ simp append_assoc) (simp length-append (omega (arith, four_long a, four_long b, four_long c))) (omega (arith, four_long d))) low

  pub numbers_written : slice_range whole (p + 16) (p + 16 + 25) ≡ numbers
  numbers_written = part_of whole (front ++ four_bytes a ++ four_bytes b ++ four_bytes c ++ four_bytes d) numbers rest (p + 16) (p + 16 + 25) (is ∙ simp append_assoc) (simp length-append (omega (arith, four_long a, four_long b, four_long c, four_long d))) (omega (arith, long))

  pub head_written : length (front ++ ((four_bytes a ++ four_bytes b ++ four_bytes c ++ four_bytes d) ++ numbers)) ≡ p + 41
  head_written = simp length-append (omega (arith, four_long a, four_long b, four_long c, four_long d, long))

  whole_long : p + 41 ≤ length whole
  whole_long = omega (arith, ap length is, length-append (front ++ ((four_bytes a ++ four_bytes b ++ four_bytes c ++ four_bytes d) ++ numbers)) rest, head_written)

-- ---- what a record's head says of its parts
pub width_of : (xs : List ℕ) (a b : ℕ) → b ≤ length xs → length (slice_range xs a b) ≡ b - a
width_of xs a b inside = length-take-le (b - a) (drop a xs) (omega (arith, inside, length-drop a xs))

module _ (body : List ℕ) (p : ℕ) (w : IsAt body p) where
  abbrev u : Record
  u = record_at body p

  pub row_width : length u.key.row ≡ length_at body p
  unfolding span_at
  row_width = omega (arith, width_of body (span_at body p).start (span_at body p).row_end (omega (arith, w.within.family, w.within.qualifier, w.within.label, w.within.value, w.within.whole)))

  pub family_width : length u.key.family ≡ length_at body (p + 4)
  unfolding span_at
  family_width = omega (arith, width_of body (span_at body p).row_end (span_at body p).family_end (omega (arith, w.within.qualifier, w.within.label, w.within.value, w.within.whole)))

  pub qualifier_width : length u.key.qualifier ≡ length_at body (p + 8)
  unfolding span_at
  qualifier_width = omega (arith, width_of body (span_at body p).family_end (span_at body p).qualifier_end (omega (arith, w.within.label, w.within.value, w.within.whole)))

  pub label_width : length u.key.label ≡ length_at body (p + 12)
  unfolding span_at
  label_width = omega (arith, width_of body (span_at body p).qualifier_end (span_at body p).label_end (omega (arith, w.within.value, w.within.whole)))

  pub value_width : length u.value ≡ length_at body (p + 16)
  unfolding span_at
  value_width = omega (arith, width_of body (span_at body p).label_end (span_at body p).end w.within.whole)

-- all but the four parts of its key a record has of the one whose head begins there
pub record HasNumbers (r : Record) (others : List ℕ) (q : ℕ) : Type 0 where
  pub timestamp : (record_at others q).key.timestamp ≡ r.key.timestamp
  pub kind : (record_at others q).kind ≡ r.kind
  pub value : (record_at others q).value ≡ r.value
  pub seq : (record_at others q).seq ≡ r.seq
  pub idx : (record_at others q).idx ≡ r.idx

-- the lengths of the four parts, and the numbers that lie there
abbrev pub head_of : ℕ → ℕ → ℕ → ℕ → List ℕ → ℕ → List ℕ
head_of a b c d others q = (four_bytes a ++ four_bytes b ++ four_bytes c ++ four_bytes d) ++ slice_range others (q + 16) (q + 41)

-- ---- a record, put behind others
module _ (front whole others : List ℕ) (place q a b c d : ℕ) (r : Record)
    (here : place ≡ length front)
    (from : IsAt others q)
    (numbers : HasNumbers r others q)
    (row_long : a ≡ length r.key.row)
    (family_long : b ≡ length r.key.family)
    (qualifier_long : c ≡ length r.key.qualifier)
    (label_long : d ≡ length r.key.label)
    (short : IsShort r)
    (is : whole ≡ (front ++ head_of a b c d others q) ++ packed r) where
  inside : q + 41 ≤ length others
  inside = head_inside others q from

  numbers_long : length (slice_range others (q + 16) (q + 41)) ≡ 25
  numbers_long = omega (arith, width_of others (q + 16) (q + 41) inside)

  -- what the head says is read
  row_says : length_at whole place ≡ a
  row_says = ap (length_at whole) here ∙ row_written front whole (slice_range others (q + 16) (q + 41)) (packed r) a b c d is numbers_long (omega (arith, row_long, short.row))

  family_says : length_at whole (place + 4) ≡ b
  family_says = ap (λ n. length_at whole (n + 4)) here ∙ family_written front whole (slice_range others (q + 16) (q + 41)) (packed r) a b c d is numbers_long (omega (arith, family_long, short.family))

  qualifier_says : length_at whole (place + 8) ≡ c
  qualifier_says = ap (λ n. length_at whole (n + 8)) here ∙ qualifier_written front whole (slice_range others (q + 16) (q + 41)) (packed r) a b c d is numbers_long (omega (arith, qualifier_long, short.qualifier))

  label_says : length_at whole (place + 12) ≡ d
  label_says = ap (λ n. length_at whole (n + 12)) here ∙ label_written front whole (slice_range others (q + 16) (q + 41)) (packed r) a b c d is numbers_long (omega (arith, label_long, short.label))

  long : place + 41 ≤ length whole
  long = omega (arith, here, whole_long front whole (slice_range others (q + 16) (q + 41)) (packed r) a b c d is numbers_long)

  numbers_same : slice_range whole (place + 16) (place + 16 + 25) ≡ slice_range others (q + 16) (q + 16 + 25)
  numbers_same =
      let end : q + 41 ≡ q + 16 + 25 = omega arith in
      ap (λ n. slice_range whole (n + 16) (n + 16 + 25)) here ∙ numbers_written front whole (slice_range others (q + 16) (q + 41)) (packed r) a b c d is numbers_long ∙ ap (slice_range others (q + 16)) end

  here_inside : place + 16 + 25 ≤ length whole
  here_inside = omega (arith, long)

  there_inside : q + 16 + 25 ≤ length others
  there_inside = omega (arith, inside)

  value_says : length_at whole (place + 16) ≡ length_at others (q + 16)
  value_says = length_alike whole others (place + 16) (q + 16) 25 numbers_same here_inside there_inside (place + 16) (q + 16) 0 (omega arith) (omega arith) (omega arith)

  time_says : number_at whole (place + 20) ≡ number_at others (q + 20)
  time_says = number_alike whole others (place + 16) (q + 16) 25 numbers_same here_inside there_inside (place + 20) (q + 20) 4 (omega arith) (omega arith) (omega arith)

  kind_says : slice_index whole (place + 28) ≡ slice_index others (q + 28)
  kind_says = byte_alike whole others (place + 16) (q + 16) 25 numbers_same here_inside there_inside (place + 28) (q + 28) 12 (omega arith) (omega arith) (omega arith)

  seq_says : number_at whole (place + 29) ≡ number_at others (q + 29)
  seq_says = number_alike whole others (place + 16) (q + 16) 25 numbers_same here_inside there_inside (place + 29) (q + 29) 13 (omega arith) (omega arith) (omega arith)

  idx_says : length_at whole (place + 37) ≡ length_at others (q + 37)
  idx_says = length_alike whole others (place + 16) (q + 16) 25 numbers_same here_inside there_inside (place + 37) (q + 37) 21 (omega arith) (omega arith) (omega arith)

  laid : LaysOut (front ++ head_of a b c d others q) r whole (span_at whole place)
  unfolding span_at
  laid = record {
    whole = is;
    start = omega (arith, here, head_written front whole (slice_range others (q + 16) (q + 41)) (packed r) a b c d is numbers_long);
    row = omega (arith, row_says, row_long);
    family = omega (arith, family_says, family_long);
    qualifier = omega (arith, qualifier_says, qualifier_long);
    label = omega (arith, label_says, label_long);
    value = omega (arith, value_says, value_width others q from, ap length numbers.value);
    timestamp = ap (cast_signed w64) time_says ∙ numbers.timestamp;
    kind = ap kind_of kind_says ∙ numbers.kind;
    seq = seq_says ∙ numbers.seq;
    idx = idx_says ∙ numbers.idx;
  }

  pub headed_record : record_at whole place ≡ r
  headed_record = laid_record (front ++ head_of a b c d others q) r whole (span_at whole place) laid

  pub headed_at : IsAt whole place
  headed_at = record { within = laid_within (front ++ head_of a b c d others q) r whole (span_at whole place) laid; short = subst IsShort (sym headed_record) short }

  -- it ends where the whole ends
  pub headed_end : (span_at whole place).end ≡ length whole
  headed_end = omega (arith, ap length is, length-append (front ++ head_of a b c d others q) (packed r), laid.start, laid.row, laid.family, laid.qualifier, laid.label, laid.value, length-packed r)

-- ---- less of each part
pub cut_short : (a b c d : ℕ) (r : Record) → IsShort r → IsShort (cut a b c d r)
cut_short a b c d r short = record {
  row = omega (arith, short.row, length-drop a r.key.row);
  family = omega (arith, short.family, length-drop b r.key.family);
  qualifier = omega (arith, short.qualifier, length-drop c r.key.qualifier);
  label = omega (arith, short.label, length-drop d r.key.label);
  value = short.value;
}
