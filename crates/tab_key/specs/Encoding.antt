-- For proofs. How a record lies in a body of bytes that holds others too.
--
-- A head of 41 bytes, and then row, family, qualifier, label and value in one piece. The head has, the most significant byte first: the
-- five lengths, 4 bytes each; the timestamp, 8 bytes; the kind, 1 byte, which is 0 for a marker and any other one for a put; the number
-- of the mutation, 8 bytes; and the place in it, 4 bytes.
use Rattle.std.specs.Prelude.{ℕ, ℤ, ◌≡◌, ◌≤◌, ◌<◌, ◌^◌, ◌+◌, List, [], ◌∷◌, ◌++◌, length, map, zero, suc, Bool, nat_le, ◌&&◌, FitsSigned, sum_by}
use Rattle.std.specs.List.{AllByRecursion, AllByRecursion-prop, slice_range, slice_index}
use Rattle.std.specs.Coded.{le_prop}
use Rattle.std.specs.Int.{w32, w64, to_be_bytes, from_be_bytes, cast_signed, cast_unsigned}
use Rattle.tab_key.specs.Records as view
use Rattle.tab_key.specs.RecordSpans.{record_in, IsWithin, packed}
use Rattle.tab_key.specs.declared.key.Kind.{Kind}
use Rattle.tab_key.specs.declared.key.Kind.TheVariants.{Delete, Put}
use Rattle.tab_key.specs.declared.limited_part.TheConstants.{MAX_PART_LEN}
use Rattle.tab_key.specs.declared.record_span.RecordSpan.{RecordSpan}

-- ---- reading
-- the number that four bytes spell, from the place on
unfoldable pub length_at : List ℕ → ℕ → ℕ
length_at body p = from_be_bytes w32 (slice_range body p (p + 4))

-- the number that eight bytes spell
unfoldable pub number_at : List ℕ → ℕ → ℕ
number_at body p = from_be_bytes w64 (slice_range body p (p + 8))

-- the kind that a byte stands for
abbrev pub kind_of : ℕ → Kind
kind_of zero = Delete
kind_of (suc n) = Put

-- where the parts of the record lie whose head begins at a place, and what its head says
unfoldable pub span_at : List ℕ → ℕ → RecordSpan
span_at body p =
    let start = p + 41 in
    let row_end = start + length_at body p in
    let family_end = row_end + length_at body (p + 4) in
    let qualifier_end = family_end + length_at body (p + 8) in
    let label_end = qualifier_end + length_at body (p + 12) in
    record {
      start = start;
      row_end = row_end;
      family_end = family_end;
      qualifier_end = qualifier_end;
      label_end = label_end;
      end = label_end + length_at body (p + 16);
      timestamp = cast_signed w64 (number_at body (p + 20));
      seq = number_at body (p + 29);
      idx = length_at body (p + 37);
      kind = kind_of (slice_index body (p + 28));
    }

-- the record itself
abbrev pub record_at : List ℕ → ℕ → view.Record
record_at body p = record_in body (span_at body p)

-- none of a record's five byte strings is longer than a mutation may have it, 1,048,576 bytes
pub record IsShort (u : view.Record) : Type 0 where
  pub row : length u.key.row ≤ MAX_PART_LEN
  pub family : length u.key.family ≤ MAX_PART_LEN
  pub qualifier : length u.key.qualifier ≤ MAX_PART_LEN
  pub label : length u.key.label ≤ MAX_PART_LEN
  pub value : length u.value ≤ MAX_PART_LEN

-- whether that is so
abbrev pub is_short : view.Record → Bool
is_short u = nat_le (length u.key.row) MAX_PART_LEN && nat_le (length u.key.family) MAX_PART_LEN && nat_le (length u.key.qualifier) MAX_PART_LEN && nat_le (length u.key.label) MAX_PART_LEN && nat_le (length u.value) MAX_PART_LEN

-- it lies in the body whole, and is short
pub record IsAt (body : List ℕ) (p : ℕ) : Type 0 where
  pub within : IsWithin body (span_at body p)
  pub short : IsShort (record_at body p)

-- the records whose heads begin at these places
abbrev pub records_at : List ℕ → List ℕ → List view.Record
records_at body places = map (record_at body) places

-- each of them lies in the body
abbrev pub AreAt : List ℕ → List ℕ → Type 0
AreAt body places = AllByRecursion (IsAt body) places

-- where so many records begin that lie one after another from a place on
abbrev pub places_from : List ℕ → ℕ → ℕ → List ℕ
places_from body p zero = []
places_from body p (suc n) = p ∷ places_from body (span_at body p).end n

-- where the last of them ends
abbrev pub end_from : List ℕ → ℕ → ℕ → ℕ
end_from body p zero = p
end_from body p (suc n) = end_from body (span_at body p).end n

-- ---- writing
-- a number in four bytes, and in eight
unfoldable pub four_bytes : ℕ → List ℕ
four_bytes n = to_be_bytes w32 n

unfoldable pub eight_bytes : ℕ → List ℕ
eight_bytes n = to_be_bytes w64 n

-- the five lengths of a record's head
abbrev pub lengths : view.Record → List ℕ
lengths r = four_bytes (length r.key.row) ++ four_bytes (length r.key.family) ++ four_bytes (length r.key.qualifier) ++ four_bytes (length r.key.label) ++ four_bytes (length r.value)

-- what follows them there, with this byte for its kind
abbrev pub numbers : ℕ → view.Record → List ℕ
numbers mark r = eight_bytes (cast_unsigned w64 r.key.timestamp) ++ (mark ∷ []) ++ eight_bytes r.seq ++ four_bytes r.idx

-- its head, and a record's bytes
abbrev pub head_bytes : ℕ → view.Record → List ℕ
head_bytes mark r = lengths r ++ numbers mark r

abbrev pub encoded : ℕ → view.Record → List ℕ
encoded mark r = lengths r ++ numbers mark r ++ packed r

-- how many these are: 41 for the head, and then the five byte strings
abbrev pub record_size : view.Record → ℕ
record_size r = 41 + length r.key.row + length r.key.family + length r.key.qualifier + length r.key.label + length r.value

-- how many bytes a cell takes in a body: as many as its record
abbrev pub cell_size : view.Cell → ℕ
cell_size c = 41 + length c.key.row + length c.key.family + length c.key.qualifier + length c.key.label + length c.value

-- the records that begin at these places lie in the body, and take as many bytes as it has
pub record AreAlone (body places : List ℕ) : Type 0 where
  pub within : AreAt body places
  pub size : length body ≡ sum_by cell_size (map view.cell_of (records_at body places))

-- what isn't bytes of a record has its place in the head
pub record FitsNumbers (timestamp : ℤ) (seq idx : ℕ) : Type 0 where
  pub signed : FitsSigned w64 timestamp
  pub bits : cast_unsigned w64 timestamp < 2 ^ 64
  pub seq_bits : seq < 2 ^ 64
  pub idx_bits : idx < 2 ^ 32

-- ---- these facts have one proof each
IsWithin-prop : (body : List ℕ) (p : RecordSpan) (a b : IsWithin body p) → a ≡ b
IsWithin-prop body p a b = λ i. record { row = le_prop a.row b.row i; family = le_prop a.family b.family i; qualifier = le_prop a.qualifier b.qualifier i; label = le_prop a.label b.label i; value = le_prop a.value b.value i; whole = le_prop a.whole b.whole i }

IsShort-prop : (u : view.Record) (a b : IsShort u) → a ≡ b
IsShort-prop u a b = λ i. record { row = le_prop a.row b.row i; family = le_prop a.family b.family i; qualifier = le_prop a.qualifier b.qualifier i; label = le_prop a.label b.label i; value = le_prop a.value b.value i }

IsAt-prop : (body : List ℕ) (p : ℕ) (a b : IsAt body p) → a ≡ b
IsAt-prop body p a b = λ i. record { within = IsWithin-prop body (span_at body p) a.within b.within i; short = IsShort-prop (record_at body p) a.short b.short i }

pub AreAt-prop : (body places : List ℕ) (a b : AreAt body places) → a ≡ b
AreAt-prop body places = AllByRecursion-prop _ (IsAt-prop body) places
