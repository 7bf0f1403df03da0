-- One record more is decoded.
use Rattle.std.proofs.Common.{◌≡◌, ℕ, zero, suc, ◌+◌, ◌%◌, ◌<◌, ◌≤◌, List, [], ◌∷◌, ◌++◌, Bool, true, false, cond, refl, sym, ◌∙◌, ap, subst, length, take, drop, arith, length-append, take-suc}
use Rattle.std.specs.Prelude.{◌==◌, slice_index_or}
use Rattle.std.proofs.lemmas.List.{drop-append-le, length-take-le}
use Rattle.tab_key.specs.Encoding.{length_at, record_at, IsShort, AreAt}
use Rattle.tab_key.specs.Records.{Key, Record}
use Rattle.tab_key.proofs.Placed.{pushed_records}
use Rattle.tab_mem.specs.Lists.{part}
use Rattle.tab_table.specs.Blocks.{no_key, base_of, entry_at, entry_end, listed, IsEntry, IsLaid, place_behind, key_behind, block_records}
use Rattle.tab_table.specs.Decoding.{untimed, IsNext, IsDecoded}
use Rattle.tab_table.proofs.Blocked.{key_last}
use Rattle.tab_table.proofs.Laid.{length_listed, next_base, listed_more, place_more, entry_there, record_there}

none_taken : (n : ℕ) (xs ys : List ℕ) → n ≤ 0 → take n xs ≡ take n ys
none_taken zero xs ys h = refl
none_taken (suc n) xs ys h = absurd (omega (arith, h))

-- what shares nothing is read alike on any key
module _ (k : Key) (body : List ℕ) (p : ℕ) (e : IsEntry no_key body p) where
  free_entry : entry_at k body p ≡ entry_at no_key body p
  free_entry =
      let rest = record_at body (p + 16) in
      λ i. record rest {
        key = record {
          row = none_taken (length_at body p) k.row [] e.row i ++ rest.key.row;
          family = none_taken (length_at body (p + 4)) k.family [] e.family i ++ rest.key.family;
          qualifier = none_taken (length_at body (p + 8)) k.qualifier [] e.qualifier i ++ rest.key.qualifier;
          label = none_taken (length_at body (p + 12)) k.label [] e.label i ++ rest.key.label;
          timestamp = rest.key.timestamp;
        };
      }

  free_is_entry : IsEntry k body p
  free_is_entry = record {
    row = omega (arith, e.row);
    family = omega (arith, e.family);
    qualifier = omega (arith, e.qualifier);
    label = omega (arith, e.label);
    rest = e.rest;
    short = subst IsShort (sym free_entry) e.short;
  }

-- the key behind which a record stands serves, whether a block begins there or not
by_base : (v : Bool) (k : Key) (body : List ℕ) (p : ℕ) (r : Record) → IsNext (cond v no_key k) body p r → IsNext (untimed k) body p r
by_base true k body p r e = record { entry = free_is_entry (untimed k) body p e.entry; reads = free_entry (untimed k) body p e.entry ∙ e.reads }
by_base false k body p r e = record {
  entry = record { row = e.entry.row; family = e.entry.family; qualifier = e.entry.qualifier; label = e.entry.label; rest = e.entry.rest; short = e.entry.short };
  reads = e.reads;
}

any_base : (m : ℕ) (k : Key) (body : List ℕ) (p : ℕ) (r : Record) → IsNext (base_of m k) body p r → IsNext (untimed k) body p r
any_base m k body p r e = by_base (m % 64 == 0) k body p r e

part_more : (rs : List Record) (first n : ℕ) (r : Record) → first ≤ n → n < length rs → slice_index_or rs n r ≡ r → part first (suc n) rs ≡ part first n rs ++ r ∷ []
part_more rs first n r le lt is =
    let long : length (take n rs) ≡ n = length-take-le n rs (omega (arith, lt)) in
    ap (drop first) (take-suc rs n r lt ∙ ap (λ u. take n rs ++ u ∷ []) is) ∙ drop-append-le first (take n rs) (r ∷ []) (omega (arith, le, long))

-- ---- what stands behind so many
module _ (body : List ℕ) (count : ℕ) (laid : IsLaid body 0 no_key 0 count) where
  abbrev rs : List Record
  rs = block_records body count

  rs_long : length rs ≡ count
  rs_long = length_listed body 0 no_key 0 count

  -- the entry of the next record, read on the key of the one before it
  pub next_here : (n : ℕ) (r u : Record) → suc n < count → r ≡ slice_index_or rs n r → IsNext (untimed r.key) body (place_behind body 0 (suc n)) (slice_index_or rs (suc n) u)
  next_here n r u lt is =
      let base = next_base body 0 no_key 0 (suc n) in
      let place = place_behind body 0 (suc n) in
      let there : slice_index_or rs (suc n) u ≡ entry_at base body place = record_there body 0 no_key 0 count (suc n) u lt in
      let last : entry_at (next_base body 0 no_key 0 n) body (place_behind body 0 n) ≡ r = sym (is ∙ record_there body 0 no_key 0 count n r (omega (arith, lt))) in
      let behind : key_behind no_key (listed body 0 no_key 0 (suc n)) ≡ r.key = ap (key_behind no_key) (listed_more body 0 no_key 0 n) ∙ key_last no_key (listed body 0 no_key 0 n) (entry_at (next_base body 0 no_key 0 n) body (place_behind body 0 n)) ∙ ap (λ (v : Record). v.key) last in
      let base_is : base ≡ base_of (0 + suc n) r.key = ap (base_of (0 + suc n)) behind in
      any_base (0 + suc n) r.key body place (slice_index_or rs (suc n) u) (subst (λ b. IsNext b body place (slice_index_or rs (suc n) u)) base_is (record { entry = entry_there body 0 no_key 0 count (suc n) laid lt; reads = sym there }))

  -- ---- one record more
  module _ (out out2 places : List ℕ) (base : Key) (at first : ℕ) (within : AreAt out places) (d : IsDecoded out places base at body count first) (lt : first + length places < count) (p : ℕ) (front : take (length out) out2 ≡ out) (reads : record_at out2 p ≡ entry_at base body at) where
    abbrev n : ℕ
    n = first + length places

    abbrev r : Record
    r = entry_at base body at

    here : slice_index_or rs n r ≡ r
    here = sym (d.next r lt).reads

    one_longer : first + length (places ++ p ∷ []) ≡ suc n
    one_longer = omega (arith, length-append places (p ∷ []))

    pub decoded_more : IsDecoded out2 (places ++ p ∷ []) (untimed r.key) (entry_end body at) body count first
    decoded_more = record {
      inside = omega (arith, lt, one_longer);
      records =
          pushed_records out out2 places (places ++ p ∷ []) p r refl front within reads
          ∙ ap (λ us. us ++ r ∷ []) d.records
          ∙ sym (part_more rs first n r (omega arith) (omega (arith, lt, rs_long)) here)
          ∙ ap (λ m. part first m rs) (sym one_longer);
      place = ap (entry_end body) d.place ∙ sym (place_more body 0 n) ∙ ap (place_behind body 0) (sym one_longer);
      next = λ u more.
          let less : suc n < count = omega (arith, more, one_longer) in
          let end : entry_end body at ≡ place_behind body 0 (suc n) = ap (entry_end body) d.place ∙ sym (place_more body 0 n) in
          subst (λ q. IsNext (untimed r.key) body q (slice_index_or rs (first + length (places ++ p ∷ [])) u)) (sym end)
          (subst (λ m. IsNext (untimed r.key) body (place_behind body 0 (suc n)) (slice_index_or rs m u)) (sym one_longer) (next_here n r u less (sym here)));
    }
