-- A record is rebuilt of its entry, behind the record before it.
use Rattle.std.proofs.Common.{◌≡◌, ℕ, ◌+◌, ◌-◌, ◌≤◌, List, ◌++◌, refl, sym, ◌∙◌, ap, length, take, drop, arith, append_assoc, length-append}
use Rattle.std.specs.List.{slice_range}
use Rattle.std.proofs.lemmas.List.{length-take, length-take-le, take-take}
use Rattle.tab_key.specs.Encoding.{length_at, span_at, record_at, IsAt}
use Rattle.tab_key.specs.RecordSpans.{packed}
use Rattle.tab_key.specs.Records.{Key, Record}
use Rattle.tab_key.specs.declared.limited_part.TheConstants.{MAX_PART_LEN}
use Rattle.tab_key.specs.declared.record_span.RecordSpan.{RecordSpan}
use Rattle.tab_key.proofs.Bodies.{same_part}
use Rattle.tab_key.proofs.Placed.{head_inside, same_span}
use Rattle.tab_table.specs.Blocks.{entry_at, IsEntry}
use Rattle.tab_table.specs.Decoding.{key_at, spliced, parts_in}
use Rattle.tab_table.proofs.Laid.{still_length}
use Rattle.tab_table.proofs.Headed.{HasNumbers, head_of, headed_record, headed_at, row_width, family_width, qualifier_width, label_width}

-- ---- of a part its first bytes
first_of : (xs : List ℕ) (a b c : ℕ) → c ≤ length (slice_range xs a b) → slice_range xs a (a + c) ≡ take c (slice_range xs a b)
first_of xs a b c fits =
    let few : c ≤ b - a = omega (arith, fits, length-take (b - a) (drop a xs)) in
    let width : a + c - a ≡ c = omega arith in
    ap (λ n. take n (drop a xs)) width ∙ sym (take-take c (b - a) (drop a xs) few)

-- the parts, by where those of the record before it lie
abbrev parts_at : List ℕ → RecordSpan → List ℕ → ℕ → List ℕ
parts_at body own blocks p =
    let rest = span_at blocks (p + 16) in
    spliced body own.start (length_at blocks p) blocks rest.start rest.row_end
    ++ spliced body own.row_end (length_at blocks (p + 4)) blocks rest.row_end rest.family_end
    ++ spliced body own.family_end (length_at blocks (p + 8)) blocks rest.family_end rest.qualifier_end
    ++ spliced body own.qualifier_end (length_at blocks (p + 12)) blocks rest.qualifier_end rest.label_end

-- ---- what an entry says of lengths
module _ (base : Key) (blocks : List ℕ) (at : ℕ) (entry : IsEntry base blocks at) where
  abbrev own_of : Record
  own_of = record_at blocks (at + 16)

  pub row_short : length_at blocks at + length_at blocks (at + 16) ≤ MAX_PART_LEN
  row_short = omega (arith, row_width blocks (at + 16) entry.rest, length-append (take (length_at blocks at) base.row) own_of.key.row, length-take-le (length_at blocks at) base.row entry.row, entry.short.row)

  pub family_short : length_at blocks (at + 4) + length_at blocks (at + 16 + 4) ≤ MAX_PART_LEN
  family_short = omega (arith, family_width blocks (at + 16) entry.rest, length-append (take (length_at blocks (at + 4)) base.family) own_of.key.family, length-take-le (length_at blocks (at + 4)) base.family entry.family, entry.short.family)

  pub qualifier_short : length_at blocks (at + 8) + length_at blocks (at + 16 + 8) ≤ MAX_PART_LEN
  qualifier_short = omega (arith, qualifier_width blocks (at + 16) entry.rest, length-append (take (length_at blocks (at + 8)) base.qualifier) own_of.key.qualifier, length-take-le (length_at blocks (at + 8)) base.qualifier entry.qualifier, entry.short.qualifier)

  pub label_short : length_at blocks (at + 12) + length_at blocks (at + 16 + 12) ≤ MAX_PART_LEN
  label_short = omega (arith, label_width blocks (at + 16) entry.rest, length-append (take (length_at blocks (at + 12)) base.label) own_of.key.label, length-take-le (length_at blocks (at + 12)) base.label entry.label, entry.short.label)

-- ---- the record before it, in any body that begins alike
module _ (front blocks : List ℕ) (base at : ℕ) (entry : IsEntry (key_at front base) blocks at) where
  pub own_enough : IsAt front base → length_at blocks at + length_at blocks (at + 4) + length_at blocks (at + 8) + length_at blocks (at + 12) + 41 + base ≤ length front
  unfolding span_at
  own_enough there = omega (arith, entry.row, entry.family, entry.qualifier, entry.label, row_width front base there, family_width front base there, qualifier_width front base there, label_width front base there, there.within.value, there.within.whole)

  -- its parts are as long as what is taken of them
  module _ (new : List ℕ) (there : IsAt front base) (same : take (length front) new ≡ front) where
    head_here : base + 41 ≤ length front
    head_here = head_inside front base there

    pub row_fits : length_at blocks at ≤ length_at new base
    row_fits = omega (arith, entry.row, row_width front base there, still_length front new same base (omega (arith, head_here)))

    pub family_fits : length_at blocks (at + 4) ≤ length_at new (base + 4)
    family_fits = omega (arith, entry.family, family_width front base there, still_length front new same (base + 4) (omega (arith, head_here)))

    pub qualifier_fits : length_at blocks (at + 8) ≤ length_at new (base + 8)
    qualifier_fits = omega (arith, entry.qualifier, qualifier_width front base there, still_length front new same (base + 8) (omega (arith, head_here)))

    pub label_fits : length_at blocks (at + 12) ≤ length_at new (base + 12)
    label_fits = omega (arith, entry.label, label_width front base there, still_length front new same (base + 12) (omega (arith, head_here)))

    pub base_inside : base + 41 + length_at new base + length_at new (base + 4) + length_at new (base + 8) + length_at new (base + 12) ≤ length front
    unfolding span_at
    base_inside = omega (arith, there.within.value, there.within.whole, still_length front new same base (omega (arith, head_here)), still_length front new same (base + 4) (omega (arith, head_here)), still_length front new same (base + 8) (omega (arith, head_here)), still_length front new same (base + 12) (omega (arith, head_here)))

    -- .. and are read alike there
    own_part : (a b c : ℕ) → a ≤ b → b ≤ length front → c ≤ length (slice_range front a b) → slice_range new a (a + c) ≡ slice_range front a (a + c)
    own_part a b c up low fits = same_part front new same a (a + c) (omega arith) (omega (arith, up, low, fits, length-take (b - a) (drop a front)))

    pub parts_same : parts_in new base blocks at ≡ parts_in front base blocks at
    parts_same =
        let s = span_at front base in
        let w = there.within in
        let row = own_part s.start s.row_end (length_at blocks at) w.row (omega (arith, w.family, w.qualifier, w.label, w.value, w.whole)) entry.row in
        let family = own_part s.row_end s.family_end (length_at blocks (at + 4)) w.family (omega (arith, w.qualifier, w.label, w.value, w.whole)) entry.family in
        let qualifier = own_part s.family_end s.qualifier_end (length_at blocks (at + 8)) w.qualifier (omega (arith, w.label, w.value, w.whole)) entry.qualifier in
        let label = own_part s.qualifier_end s.label_end (length_at blocks (at + 12)) w.label (omega (arith, w.value, w.whole)) entry.label in
        ap (λ (z : RecordSpan). parts_at new z blocks at) (same_span front new base same head_here)
        ∙ (λ i. (row i ++ (record_at blocks (at + 16)).key.row) ++ (family i ++ (record_at blocks (at + 16)).key.family) ++ (qualifier i ++ (record_at blocks (at + 16)).key.qualifier) ++ (label i ++ (record_at blocks (at + 16)).key.label))

-- ---- the record, behind others among which the one before it lies
module _ (front whole blocks : List ℕ) (place base at a b c d : ℕ)
    (here : place ≡ length front)
    (entry : IsEntry (key_at front base) blocks at)
    (row_is : a ≡ length_at blocks at + length_at blocks (at + 16))
    (family_is : b ≡ length_at blocks (at + 4) + length_at blocks (at + 16 + 4))
    (qualifier_is : c ≡ length_at blocks (at + 8) + length_at blocks (at + 16 + 8))
    (label_is : d ≡ length_at blocks (at + 12) + length_at blocks (at + 16 + 12))
    (is : whole ≡ ((front ++ head_of a b c d blocks (at + 16)) ++ parts_in front base blocks at) ++ (record_at blocks (at + 16)).value) where
  abbrev r : Record
  r = entry_at (key_at front base) blocks at

  abbrev own : Record
  own = record_at blocks (at + 16)

  -- the parts are as long as the head says
  row_long : a ≡ length r.key.row
  row_long = omega (arith, row_is, row_width blocks (at + 16) entry.rest, length-append (take (length_at blocks at) (key_at front base).row) own.key.row, length-take-le (length_at blocks at) (key_at front base).row entry.row)

  family_long : b ≡ length r.key.family
  family_long = omega (arith, family_is, family_width blocks (at + 16) entry.rest, length-append (take (length_at blocks (at + 4)) (key_at front base).family) own.key.family, length-take-le (length_at blocks (at + 4)) (key_at front base).family entry.family)

  qualifier_long : c ≡ length r.key.qualifier
  qualifier_long = omega (arith, qualifier_is, qualifier_width blocks (at + 16) entry.rest, length-append (take (length_at blocks (at + 8)) (key_at front base).qualifier) own.key.qualifier, length-take-le (length_at blocks (at + 8)) (key_at front base).qualifier entry.qualifier)

  label_long : d ≡ length r.key.label
  label_long = omega (arith, label_is, label_width blocks (at + 16) entry.rest, length-append (take (length_at blocks (at + 12)) (key_at front base).label) own.key.label, length-take-le (length_at blocks (at + 12)) (key_at front base).label entry.label)

  -- .. and they are the record's
  parts_are : parts_in front base blocks at ++ own.value ≡ packed r
  parts_are =
      let s = span_at front base in
      let row = first_of front s.start s.row_end (length_at blocks at) entry.row in
      let family = first_of front s.row_end s.family_end (length_at blocks (at + 4)) entry.family in
      let qualifier = first_of front s.family_end s.qualifier_end (length_at blocks (at + 8)) entry.qualifier in
      let label = first_of front s.qualifier_end s.label_end (length_at blocks (at + 12)) entry.label in
      λ i. (row i ++ own.key.row) ++ (family i ++ own.key.family) ++ (qualifier i ++ own.key.qualifier) ++ (label i ++ own.key.label) ++ own.value

  numbers : HasNumbers r blocks (at + 16)
  numbers = record { timestamp = refl; kind = refl; value = refl; seq = refl; idx = refl }

  all : whole ≡ (front ++ head_of a b c d blocks (at + 16)) ++ packed r
  all = is ∙ append_assoc (front ++ head_of a b c d blocks (at + 16)) (parts_in front base blocks at) own.value ∙ ap (λ xs. (front ++ head_of a b c d blocks (at + 16)) ++ xs) parts_are

  pub rebuilt_record : record_at whole place ≡ r
  rebuilt_record = headed_record front whole blocks place (at + 16) a b c d r here entry.rest numbers row_long family_long qualifier_long label_long entry.short all

  pub rebuilt_at : IsAt whole place
  rebuilt_at = headed_at front whole blocks place (at + 16) a b c d r here entry.rest numbers row_long family_long qualifier_long label_long entry.short all
