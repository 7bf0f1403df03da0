-- What is decoded of some bytes is what is decoded of equal ones elsewhere.
use Rattle.std.proofs.Common.{◌≡◌, ℕ, zero, suc, ◌+◌, ◌-◌, ◌<◌, ◌≤◌, List, [], ◌∷◌, ◌++◌, refl, sym, ◌∙◌, ap, subst, length, take, arith, take_all}
use Rattle.std.specs.Int.{w64, cast_signed}
use Rattle.std.specs.List.{slice_range}
use Rattle.tab_key.specs.Encoding.{length_at, kind_of, span_at, record_at, IsAt, AreAt}
use Rattle.tab_key.specs.Records.{Key, Record}
use Rattle.tab_table.specs.Blocks.{no_key, rebuilt, entry_at, entry_end, place_behind, IsEntry, IsLaid}
use Rattle.tab_table.specs.Decoding.{untimed, key_at, AreRead, AreEntries, IsStanding, IsKept}
use Rattle.tab_table.proofs.Begun.{kept_long}
use Rattle.tab_table.proofs.Headed.{alike, length_alike, number_alike, byte_alike, width_of}
use Rattle.tab_table.proofs.Laid.{still_record, place_more, entry_there}

-- a record that is read of an entry is read of it on its own key too
own_read : (base : Key) (body : List ℕ) (p : ℕ) (u : Record) → IsEntry base body p → u ≡ entry_at base body p → u ≡ entry_at (untimed u.key) body p
own_read base body p u e is =
    let rest = record_at body (p + 16) in
    let row = kept_long (length_at body p) base.row rest.key.row u.key.row e.row (ap (λ (v : Record). v.key.row) (sym is)) in
    let family = kept_long (length_at body (p + 4)) base.family rest.key.family u.key.family e.family (ap (λ (v : Record). v.key.family) (sym is)) in
    let qualifier = kept_long (length_at body (p + 8)) base.qualifier rest.key.qualifier u.key.qualifier e.qualifier (ap (λ (v : Record). v.key.qualifier) (sym is)) in
    let label = kept_long (length_at body (p + 12)) base.label rest.key.label u.key.label e.label (ap (λ (v : Record). v.key.label) (sym is)) in
    is
    ∙ (λ i. record rest {
      key = record {
        row = sym row i ++ rest.key.row;
        family = sym family i ++ rest.key.family;
        qualifier = sym qualifier i ++ rest.key.qualifier;
        label = sym label i ++ rest.key.label;
        timestamp = rest.key.timestamp;
      };
    })

-- ---- one record more
module _ (out out2 : List ℕ) (front : take (length out) out2 ≡ out) where
  key_still : (p : ℕ) → IsAt out p → key_at out2 p ≡ key_at out p
  key_still p w = ap (λ u. untimed u.key) (still_record out out2 front p w)

  module _ (blocks : List ℕ) (at p : ℕ) (last : Key) (reads : record_at out2 p ≡ entry_at last blocks at) where
    more_from : (key : Key) (xs : List ℕ) (s : ℕ) → AreAt out xs → AreRead out key xs blocks s at last → AreRead out2 key (xs ++ p ∷ []) blocks s (entry_end blocks at) (key_at out2 p)
    more_from key [] s w r = (reads ∙ (λ i. entry_at (sym r.1 i) blocks (sym r.0 i)), (ap (entry_end blocks) r.0, refl))
    more_from key (x ∷ xs) s w r =
        let rest = more_from (key_at out x) xs (entry_end blocks s) w.1 r.1 in
        (still_record out out2 front x w.0 ∙ r.0, subst (λ k. AreRead out2 k (xs ++ p ∷ []) blocks (entry_end blocks s) (entry_end blocks at) (key_at out2 p)) (sym (key_still x w.0)) rest)

pub read_more : (out out2 places blocks : List ℕ) (first at p : ℕ) (last : Key) → AreAt out places → take (length out) out2 ≡ out → at ≡ place_behind blocks 0 (first + length places) → IsEntry last blocks at → AreEntries out places blocks (place_behind blocks 0 first) at last → record_at out2 p ≡ entry_at last blocks at → AreEntries out2 (places ++ p ∷ []) blocks (place_behind blocks 0 first) (entry_end blocks at) (key_at out2 p)
read_more out out2 [] blocks first at p last within front place entry read reads =
    let none : first + 0 ≡ first = omega arith in
    let here : at ≡ place_behind blocks 0 first = place ∙ ap (place_behind blocks 0) none in
    (own_read last blocks at (record_at out2 p) entry reads ∙ ap (entry_at (key_at out2 p) blocks) here, (ap (entry_end blocks) (sym here), refl))
read_more out out2 (x ∷ xs) blocks first at p last within front place entry read reads =
    let s = place_behind blocks 0 first in
    subst (λ k. AreRead out2 k (x ∷ xs ++ p ∷ []) blocks s (entry_end blocks at) (key_at out2 p)) (sym (key_still out out2 front x within.0))
    (more_from out out2 front blocks at p last reads (key_at out x) (x ∷ xs) s within read)

-- ---- the entries lie one behind the other
end_above : (blocks : List ℕ) (a : ℕ) → a ≤ entry_end blocks a
unfolding span_at
end_above blocks a = omega arith

read_upto : (out : List ℕ) (key last : Key) (ps blocks : List ℕ) (a end : ℕ) → AreRead out key ps blocks a end last → a ≤ end
read_upto out key last [] blocks a end r = omega (arith, r.0)
read_upto out key last (x ∷ ps) blocks a end r = omega (arith, read_upto out (key_at out x) last ps blocks (entry_end blocks a) end r.1, end_above blocks a)

pub entries_upto : (out places blocks : List ℕ) (a end : ℕ) (last : Key) → 0 < length places → AreEntries out places blocks a end last → a ≤ end
entries_upto out [] blocks a end last some r = absurd (omega (arith, some))
entries_upto out (x ∷ ps) blocks a end last some r = read_upto out (key_at out x) last (x ∷ ps) blocks a end r

-- ---- equal bytes
module _ (xs ys : List ℕ) (p q m : ℕ) (same : slice_range xs p (p + m) ≡ slice_range ys q (q + m)) (here : p + m ≤ length xs) (there : q + m ≤ length ys) where
  record_alike : (a c i : ℕ) → a ≡ p + i → c ≡ q + i → (span_at xs a).end ≤ p + m → record_at xs a ≡ record_at ys c
  unfolding span_at
  record_alike a c i e g low =
      let s = span_at xs a in
      let t = span_at ys c in
      let row = length_alike xs ys p q m same here there a c i e g (omega (arith, e, low)) in
      let family = length_alike xs ys p q m same here there (a + 4) (c + 4) (i + 4) (omega (arith, e)) (omega (arith, g)) (omega (arith, e, low)) in
      let qualifier = length_alike xs ys p q m same here there (a + 8) (c + 8) (i + 8) (omega (arith, e)) (omega (arith, g)) (omega (arith, e, low)) in
      let label = length_alike xs ys p q m same here there (a + 12) (c + 12) (i + 12) (omega (arith, e)) (omega (arith, g)) (omega (arith, e, low)) in
      let value = length_alike xs ys p q m same here there (a + 16) (c + 16) (i + 16) (omega (arith, e)) (omega (arith, g)) (omega (arith, e, low)) in
      let time = number_alike xs ys p q m same here there (a + 20) (c + 20) (i + 20) (omega (arith, e)) (omega (arith, g)) (omega (arith, e, low)) in
      let kind = byte_alike xs ys p q m same here there (a + 28) (c + 28) (i + 28) (omega (arith, e)) (omega (arith, g)) (omega (arith, e, low)) in
      let seq = number_alike xs ys p q m same here there (a + 29) (c + 29) (i + 29) (omega (arith, e)) (omega (arith, g)) (omega (arith, e, low)) in
      let idx = length_alike xs ys p q m same here there (a + 37) (c + 37) (i + 37) (omega (arith, e)) (omega (arith, g)) (omega (arith, e, low)) in
      let row_end : ℕ = i + 41 + length_at xs a in
      let family_end : ℕ = row_end + length_at xs (a + 4) in
      let qualifier_end : ℕ = family_end + length_at xs (a + 8) in
      let label_end : ℕ = qualifier_end + length_at xs (a + 12) in
      let end : ℕ = label_end + length_at xs (a + 16) in
      let row_part = alike xs ys p q m same here there s.start s.row_end t.start t.row_end (i + 41) row_end (omega (arith, e)) (omega (arith, e)) (omega (arith, g)) (omega (arith, g, row)) (omega arith) (omega (arith, e, low)) in
      let family_part = alike xs ys p q m same here there s.row_end s.family_end t.row_end t.family_end row_end family_end (omega (arith, e)) (omega (arith, e)) (omega (arith, g, row)) (omega (arith, g, row, family)) (omega arith) (omega (arith, e, low)) in
      let qualifier_part = alike xs ys p q m same here there s.family_end s.qualifier_end t.family_end t.qualifier_end family_end qualifier_end (omega (arith, e)) (omega (arith, e)) (omega (arith, g, row, family)) (omega (arith, g, row, family, qualifier)) (omega arith) (omega (arith, e, low)) in
      let label_part = alike xs ys p q m same here there s.qualifier_end s.label_end t.qualifier_end t.label_end qualifier_end label_end (omega (arith, e)) (omega (arith, e)) (omega (arith, g, row, family, qualifier)) (omega (arith, g, row, family, qualifier, label)) (omega arith) (omega (arith, e, low)) in
      let value_part = alike xs ys p q m same here there s.label_end s.end t.label_end t.end label_end end (omega (arith, e)) (omega (arith, e)) (omega (arith, g, row, family, qualifier, label)) (omega (arith, g, row, family, qualifier, label, value)) (omega arith) (omega (arith, e, low)) in
      λ j. record {
        key = record { row = row_part j; family = family_part j; qualifier = qualifier_part j; label = label_part j; timestamp = cast_signed w64 (time j) };
        kind = kind_of (kind j);
        value = value_part j;
        seq = seq j;
        idx = idx j;
      }

  end_alike : (a c i : ℕ) → a ≡ p + i → c ≡ q + i → entry_end xs a ≤ p + m → p + entry_end ys c ≡ q + entry_end xs a
  unfolding span_at
  end_alike a c i e g low =
      let row = length_alike xs ys p q m same here there (a + 16) (c + 16) (i + 16) (omega (arith, e)) (omega (arith, g)) (omega (arith, e, low)) in
      let family = length_alike xs ys p q m same here there (a + 16 + 4) (c + 16 + 4) (i + 16 + 4) (omega (arith, e)) (omega (arith, g)) (omega (arith, e, low)) in
      let qualifier = length_alike xs ys p q m same here there (a + 16 + 8) (c + 16 + 8) (i + 16 + 8) (omega (arith, e)) (omega (arith, g)) (omega (arith, e, low)) in
      let label = length_alike xs ys p q m same here there (a + 16 + 12) (c + 16 + 12) (i + 16 + 12) (omega (arith, e)) (omega (arith, g)) (omega (arith, e, low)) in
      let value = length_alike xs ys p q m same here there (a + 16 + 16) (c + 16 + 16) (i + 16 + 16) (omega (arith, e)) (omega (arith, g)) (omega (arith, e, low)) in
      omega (arith, e, g, row, family, qualifier, label, value)

  head_upto : (a i : ℕ) → a ≡ p + i → entry_end xs a ≤ p + m → i + 57 ≤ m
  unfolding span_at
  head_upto a i e low = omega (arith, e, low)

  entry_alike : (key : Key) (a c i : ℕ) → a ≡ p + i → c ≡ q + i → entry_end xs a ≤ p + m → entry_at key xs a ≡ entry_at key ys c
  entry_alike key a c i e g low =
      let few = head_upto a i e low in
      let row = length_alike xs ys p q m same here there a c i e g (omega (arith, few)) in
      let family = length_alike xs ys p q m same here there (a + 4) (c + 4) (i + 4) (omega (arith, e)) (omega (arith, g)) (omega (arith, few)) in
      let qualifier = length_alike xs ys p q m same here there (a + 8) (c + 8) (i + 8) (omega (arith, e)) (omega (arith, g)) (omega (arith, few)) in
      let label = length_alike xs ys p q m same here there (a + 12) (c + 12) (i + 12) (omega (arith, e)) (omega (arith, g)) (omega (arith, few)) in
      let rest = record_alike (a + 16) (c + 16) (i + 16) (omega (arith, e)) (omega (arith, g)) low in
      λ j. rebuilt key (row j) (family j) (qualifier j) (label j) (rest j)

  moved_read : (out : List ℕ) (key last : Key) (ps : List ℕ) (a c i : ℕ) → a ≡ p + i → c ≡ q + i → AreRead out key ps xs a (p + m) last → AreRead out key ps ys c (q + m) last
  moved_read out key last [] a c i e g r = (omega (arith, e, g, r.0), r.1)
  moved_read out key last (x ∷ ps) a c i e g r =
      let low : entry_end xs a ≤ p + m = read_upto out (key_at out x) last ps xs (entry_end xs a) (p + m) r.1 in
      let end = end_alike a c i e g low in
      let up = end_above xs a in
      (r.0 ∙ entry_alike key a c i e g low, moved_read out (key_at out x) last ps (entry_end xs a) (entry_end ys c) (entry_end xs a - p) (omega (arith, e, up)) (omega (arith, e, up, end)) r.1)

  pub moved_entries : (out places : List ℕ) (last : Key) (a c i : ℕ) → a ≡ p + i → c ≡ q + i → AreEntries out places xs a (p + m) last → AreEntries out places ys c (q + m) last
  moved_entries out [] last a c i e g r = tt
  moved_entries out (x ∷ ps) last a c i e g r = moved_read out (key_at out x) last (x ∷ ps) a c i e g r

-- ---- records of a window, with the bytes of their entries
pub kept_of : (out places : List ℕ) (base at : ℕ) (body : List ℕ) (count first start : ℕ) (bytes : List ℕ) → IsStanding out places base at body count first → 0 < length places → start ≡ place_behind body 0 first → at ≤ length body → bytes ≡ slice_range body start at → IsKept out places base bytes
kept_of out places base at body count first start bytes standing some here inside is =
    let last = key_at out base in
    let read : AreEntries out places body start at last = subst (λ n. AreEntries out places body n at last) (sym here) standing.read in
    let up : start ≤ at = entries_upto out places body start at last some read in
    let m : ℕ = at - start in
    let to : at ≡ start + m = omega (arith, up) in
    let long : length bytes ≡ m = ap length is ∙ width_of body start at inside in
    let all : slice_range bytes 0 (0 + m) ≡ bytes = take_all (0 + m - 0) bytes (omega (arith, long)) in
    let same : slice_range body start (start + m) ≡ slice_range bytes 0 (0 + m) = ap (slice_range body start) (sym to) ∙ sym is ∙ sym all in
    let moved : AreEntries out places bytes 0 (0 + m) last = moved_entries body bytes start 0 m same (omega (arith, to, inside)) (omega (arith, long)) out places last start 0 0 (omega arith) (omega arith) (subst (λ n. AreEntries out places body start n last) to read) in
    let end : 0 + m ≡ length bytes = omega (arith, long) in
    record { there = standing.there; read = subst (λ n. AreEntries out places bytes 0 n last) end moved }

-- the entry behind so many begins in the body, or where it ends
pub place_inside : (body : List ℕ) (count n : ℕ) → IsLaid body 0 no_key 0 count → n ≤ count → place_behind body 0 n ≤ length body
place_inside body count zero laid le = omega arith
place_inside body count (suc n) laid le =
    let entry = entry_there body 0 no_key 0 count n laid (omega (arith, le)) in
    omega (arith, place_more body 0 n, entry.rest.within.whole)
