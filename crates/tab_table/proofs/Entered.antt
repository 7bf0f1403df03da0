-- An entry that was put behind others is read again.
use Rattle.std.proofs.Common.{◌≡◌, ℕ, ◌+◌, ◌-◌, ◌<◌, ◌≤◌, ◌^◌, List, [], ◌++◌, refl, sym, ◌∙◌, ap, subst, length, take, drop, arith, append_assoc, append-nil, length-append}
use Rattle.std.specs.List.{slice_range}
use Rattle.std.specs.Int.{w32, from_be_bytes}
use Rattle.std.proofs.lemmas.List.{length-drop, length-take, length-take-le, drop-drop, drop-take, take_at}
use Rattle.std.proofs.lemmas.Nat.{from_be_bytes-to_be_bytes_4}
use Rattle.tab_key.specs.Encoding.{length_at, span_at, record_at, record_size, four_bytes, IsAt, IsShort}
use Rattle.tab_key.specs.Records.{Key, Record}
use Rattle.tab_key.proofs.Bodies.{same_part}
use Rattle.tab_key.proofs.Packed.{part_of}
use Rattle.tab_key.proofs.Windows.{piece_size, ends_behind}
use Rattle.tab_mem.proofs.KeptFront.{same_front}
use Rattle.tab_table.specs.Blocks.{shared, rebuilt, cut, beyond, entry_at, entry_end, size_behind, IsEntry}
use Rattle.tab_key.specs.RecordSpans.{packed}
use Rattle.tab_table.specs.Counts.{AreShared}
use Rattle.tab_table.specs.EntryBytes.{rests_of, entry_bytes, IsPut}
use Rattle.tab_table.specs.declared.sharing.Counts.{Counts}
use Rattle.tab_table.proofs.Headed.{HasNumbers, head_of, headed_record, headed_at, headed_end, row_width, family_width, qualifier_width, label_width, cut_short}
use Rattle.tab_table.proofs.Shares.{shared_first, shared_second, shared_rest}

four_long : (n : ℕ) → length (four_bytes n) ≡ 4
unfolding four_bytes
four_long n = refl

length_read : (body : List ℕ) (p n : ℕ) → slice_range body p (p + 4) ≡ four_bytes n → n < 2 ^ 32 → length_at body p ≡ n
unfolding length_at four_bytes
length_read body p n is low = ap (from_be_bytes w32) is ∙ from_be_bytes-to_be_bytes_4 n low

-- the four numbers of an entry
abbrev pub count_bytes : ℕ → ℕ → ℕ → ℕ → List ℕ
count_bytes a b c d = four_bytes a ++ four_bytes b ++ four_bytes c ++ four_bytes d

counts_long : (a b c d : ℕ) → length (count_bytes a b c d) ≡ 16
counts_long a b c d = simp length-append (omega (arith, four_long a, four_long b, four_long c, four_long d))

-- what was taken off and put on again
put_together : (base : Key) (r : Record) → rebuilt base (shared base.row r.key.row) (shared base.family r.key.family) (shared base.qualifier r.key.qualifier) (shared base.label r.key.label) (beyond base r) ≡ r
put_together base r = λ i. record r {
  key = record {
    row = shared_rest base.row r.key.row i;
    family = shared_rest base.family r.key.family i;
    qualifier = shared_rest base.qualifier r.key.qualifier i;
    label = shared_rest base.label r.key.label i;
    timestamp = r.key.timestamp;
  };
}

beyond_size : (base : Key) (r : Record) → size_behind base r ≡ 16 + record_size (beyond base r)
beyond_size base r = simp length-drop (omega arith)

-- a body, the four numbers behind it, and a record behind these
module _ (old mid new : List ℕ) (base : Key) (r : Record)
    (counted : mid ≡ old ++ count_bytes (shared base.row r.key.row) (shared base.family r.key.family) (shared base.qualifier r.key.qualifier) (shared base.label r.key.label))
    (front : take (length mid) new ≡ mid)
    (there : IsAt new (length mid))
    (reads : record_at new (length mid) ≡ beyond base r)
    (ends : (span_at new (length mid)).end ≡ length new)
    (short : IsShort r) where
  abbrev a : ℕ
  a = shared base.row r.key.row

  abbrev b : ℕ
  b = shared base.family r.key.family

  abbrev c : ℕ
  c = shared base.qualifier r.key.qualifier

  abbrev d : ℕ
  d = shared base.label r.key.label

  abbrev at : ℕ
  at = length old

  mid_long : length mid ≡ at + 16
  mid_long = ap length counted ∙ length-append old (count_bytes a b c d) ∙ ap (λ n. at + n) (counts_long a b c d)

  row_says : length_at new at ≡ a
  row_says = length_read new at a (same_part mid new front at (at + 4) (omega arith) (omega (arith, mid_long)) ∙ part_of mid old (four_bytes a) (four_bytes b ++ four_bytes c ++ four_bytes d) at (at + 4) (counted ∙ simp append_assoc) refl (omega (arith, four_long a))) (omega (arith, shared_second base.row r.key.row, short.row))

  family_says : length_at new (at + 4) ≡ b
  family_says = length_read new (at + 4) b (same_part mid new front (at + 4) (at + 4 + 4) (omega arith) (omega (arith, mid_long)) ∙ part_of mid (old ++ four_bytes a) (four_bytes b) (four_bytes c ++ four_bytes d) (at + 4) (at + 4 + 4) (counted ∙ simp append_assoc) (simp length-append (omega (arith, four_long a))) (omega (arith, four_long b))) (omega (arith, shared_second base.family r.key.family, short.family))

  qualifier_says : length_at new (at + 8) ≡ c
  qualifier_says = length_read new (at + 8) c (same_part mid new front (at + 8) (at + 8 + 4) (omega arith) (omega (arith, mid_long)) ∙ part_of mid (old ++ four_bytes a ++ four_bytes b) (four_bytes c) (four_bytes d) (at + 8) (at + 8 + 4) (counted ∙ simp append_assoc) (simp length-append (omega (arith, four_long a, four_long b))) (omega (arith, four_long c))) (omega (arith, shared_second base.qualifier r.key.qualifier, short.qualifier))

  label_says : length_at new (at + 12) ≡ d
  label_says = length_read new (at + 12) d (same_part mid new front (at + 12) (at + 12 + 4) (omega arith) (omega (arith, mid_long)) ∙ part_of mid (old ++ four_bytes a ++ four_bytes b ++ four_bytes c) (four_bytes d) [] (at + 12) (at + 12 + 4) (counted ∙ simp (append_assoc, append-nil)) (simp length-append (omega (arith, four_long a, four_long b, four_long c))) (omega (arith, four_long d))) (omega (arith, shared_second base.label r.key.label, short.label))

  rest_says : record_at new (at + 16) ≡ beyond base r
  rest_says = ap (record_at new) (sym mid_long) ∙ reads

  pub entered_record : entry_at base new at ≡ r
  entered_record = (λ i. rebuilt base (row_says i) (family_says i) (qualifier_says i) (label_says i) (rest_says i)) ∙ put_together base r

  pub entered : IsEntry base new at
  entered = record {
    row = omega (arith, row_says, shared_first base.row r.key.row);
    family = omega (arith, family_says, shared_first base.family r.key.family);
    qualifier = omega (arith, qualifier_says, shared_first base.qualifier r.key.qualifier);
    label = omega (arith, label_says, shared_first base.label r.key.label);
    rest = subst (IsAt new) mid_long there;
    short = subst IsShort (sym entered_record) short;
  }

  pub entered_end : entry_end new at ≡ length new
  entered_end = ap (λ p. (span_at new p).end) (sym mid_long) ∙ ends

  pub entered_size : length new ≡ at + size_behind base r
  entered_size =
      let p = length mid in
      let low : p ≤ length new = omega (arith, ends_behind new p, ends) in
      let size : length (slice_range new p (span_at new p).end) ≡ record_size (beyond base r) = piece_size new p there ∙ ap record_size reads in
      let long : length (slice_range new p (span_at new p).end) ≡ (span_at new p).end - p = length-take-le ((span_at new p).end - p) (drop p new) (omega (arith, ends, length-drop p new)) in
      omega (arith, size, long, ends, low, mid_long, beyond_size base r)

  pub entered_front : take at new ≡ old
  entered_front = same_front old mid new (ap (take at) counted ∙ take_at old (count_bytes a b c d) at refl) front

-- ---- what the steps of writing one say, in one piece
pub put_read : (old mid new : List ℕ) (base : Key) (r : Record) (k : Key) (place p a b c d : ℕ) → place ≡ length old → k ≡ r.key → a ≡ shared base.row k.row → b ≡ shared base.family k.family → c ≡ shared base.qualifier k.qualifier → d ≡ shared base.label k.label → mid ≡ old ++ count_bytes a b c d → take (length mid) new ≡ mid → p ≡ length mid → IsAt new p → record_at new p ≡ cut a b c d r → (span_at new p).end ≡ length new → IsShort r → IsPut base old new place r
put_read old mid new base r k place p a b c d here same row family qualifier label counted front there at reads ends short =
    let row_is = row ∙ ap (λ (j : Key). shared base.row j.row) same in
    let family_is = family ∙ ap (λ (j : Key). shared base.family j.family) same in
    let qualifier_is = qualifier ∙ ap (λ (j : Key). shared base.qualifier j.qualifier) same in
    let label_is = label ∙ ap (λ (j : Key). shared base.label j.label) same in
    let all : mid ≡ old ++ count_bytes (shared base.row r.key.row) (shared base.family r.key.family) (shared base.qualifier r.key.qualifier) (shared base.label r.key.label) = counted ∙ (λ i. old ++ count_bytes (row_is i) (family_is i) (qualifier_is i) (label_is i)) in
    let lies : IsAt new (length mid) = subst (IsAt new) there at in
    let says : record_at new (length mid) ≡ beyond base r = ap (record_at new) (sym there) ∙ reads ∙ (λ i. cut (row_is i) (family_is i) (qualifier_is i) (label_is i) r) in
    let last : (span_at new (length mid)).end ≡ length new = ap (λ q. (span_at new q).end) (sym there) ∙ ends in
    record {
      entry = subst (IsEntry base new) (sym here) (entered old mid new base r all front lies says last short);
      reads = ap (entry_at base new) here ∙ entered_record old mid new base r all front lies says last short;
      end = ap (entry_end new) here ∙ entered_end old mid new base r all front lies says last short;
      size = entered_size old mid new base r all front lies says last short;
      front = entered_front old mid new base r all front lies says last short;
    }

-- ---- an entry, written in one piece
last_of : (xs : List ℕ) (p q a : ℕ) → a ≤ length (slice_range xs p q) → slice_range xs (p + a) q ≡ drop a (slice_range xs p q)
last_of xs p q a fits =
    let few : a ≤ q - p = omega (arith, fits, length-take (q - p) (drop p xs)) in
    let rest : q - (p + a) ≡ q - p - a = omega arith in
    let whole : q - p ≡ a + (q - p - a) = omega (arith, few) in
    sym (ap (λ n. drop a (take n (drop p xs))) whole ∙ drop-take a (q - p - a) (drop p xs) ∙ ap (take (q - p - a)) (drop-drop a p xs) ∙ ap (λ n. take n (drop (p + a) xs)) (sym rest))

regrouped : (old counts head rests value : List ℕ) → (old ++ (counts ++ head ++ rests)) ++ value ≡ ((old ++ counts) ++ head) ++ (rests ++ value)
regrouped old counts head rests value = simp append_assoc

pub entry_put : (old new bytes : List ℕ) (base : Key) (c : Counts) (place : ℕ) → place ≡ length old → IsAt bytes 0 → AreShared c base (record_at bytes 0) → new ≡ (old ++ entry_bytes c.row c.family c.qualifier c.label bytes) ++ (record_at bytes 0).value → IsPut base old new place (record_at bytes 0)
entry_put old new bytes base c place here there shares is =
    let r = record_at bytes 0 in
    let less = cut c.row c.family c.qualifier c.label r in
    let mid : List ℕ = old ++ count_bytes c.row c.family c.qualifier c.label in
    let head : List ℕ = head_of (length_at bytes 0 - c.row) (length_at bytes 4 - c.family) (length_at bytes 8 - c.qualifier) (length_at bytes 12 - c.label) bytes 0 in
    let row_in : c.row ≤ length r.key.row = omega (arith, shares.row, shared_second base.row r.key.row) in
    let family_in : c.family ≤ length r.key.family = omega (arith, shares.family, shared_second base.family r.key.family) in
    let qualifier_in : c.qualifier ≤ length r.key.qualifier = omega (arith, shares.qualifier, shared_second base.qualifier r.key.qualifier) in
    let label_in : c.label ≤ length r.key.label = omega (arith, shares.label, shared_second base.label r.key.label) in
    let s = span_at bytes 0 in
    let row = last_of bytes s.start s.row_end c.row row_in in
    let family = last_of bytes s.row_end s.family_end c.family family_in in
    let qualifier = last_of bytes s.family_end s.qualifier_end c.qualifier qualifier_in in
    let label = last_of bytes s.qualifier_end s.label_end c.label label_in in
    let parts : rests_of c.row c.family c.qualifier c.label bytes ++ r.value ≡ packed less = λ i. row i ++ family i ++ qualifier i ++ label i ++ r.value in
    let all : new ≡ (mid ++ head) ++ packed less = is ∙ regrouped old (count_bytes c.row c.family c.qualifier c.label) head (rests_of c.row c.family c.qualifier c.label bytes) r.value ∙ ap (λ xs. (mid ++ head) ++ xs) parts in
    let front : take (length mid) new ≡ mid = ap (take (length mid)) (all ∙ append_assoc mid head (packed less)) ∙ take_at mid (head ++ packed less) (length mid) refl in
    let numbers : HasNumbers less bytes 0 = record { timestamp = refl; kind = refl; value = refl; seq = refl; idx = refl } in
    let row_long : length_at bytes 0 - c.row ≡ length less.key.row = omega (arith, row_width bytes 0 there, length-drop c.row r.key.row) in
    let family_long : length_at bytes 4 - c.family ≡ length less.key.family = omega (arith, family_width bytes 0 there, length-drop c.family r.key.family) in
    let qualifier_long : length_at bytes 8 - c.qualifier ≡ length less.key.qualifier = omega (arith, qualifier_width bytes 0 there, length-drop c.qualifier r.key.qualifier) in
    let label_long : length_at bytes 12 - c.label ≡ length less.key.label = omega (arith, label_width bytes 0 there, length-drop c.label r.key.label) in
    let short : IsShort less = cut_short c.row c.family c.qualifier c.label r there.short in
    let at = headed_at mid new bytes (length mid) 0 (length_at bytes 0 - c.row) (length_at bytes 4 - c.family) (length_at bytes 8 - c.qualifier) (length_at bytes 12 - c.label) less refl there numbers row_long family_long qualifier_long label_long short all in
    let reads = headed_record mid new bytes (length mid) 0 (length_at bytes 0 - c.row) (length_at bytes 4 - c.family) (length_at bytes 8 - c.qualifier) (length_at bytes 12 - c.label) less refl there numbers row_long family_long qualifier_long label_long short all in
    let ends = headed_end mid new bytes (length mid) 0 (length_at bytes 0 - c.row) (length_at bytes 4 - c.family) (length_at bytes 8 - c.qualifier) (length_at bytes 12 - c.label) less refl there numbers row_long family_long qualifier_long label_long short all in
    put_read old mid new base r r.key place (length mid) c.row c.family c.qualifier c.label here refl shares.row shares.family shares.qualifier shares.label refl front refl at reads ends there.short
