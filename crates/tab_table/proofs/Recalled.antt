-- Kept records are those of a table that has their bytes at the place of the first, and there a record with its key.
use Rattle.std.proofs.Common.{◌≡◌, ℕ, ◌+◌, ◌-◌, ◌<◌, ◌≤◌, List, [], ◌∷◌, ◌++◌, refl, sym, ◌∙◌, ap, subst, length, take, arith, take_all, append_assoc, append-nil, length-append}
use Rattle.std.specs.Prelude.{slice_index_or}
use Rattle.std.specs.List.{slice_range}
use Rattle.tab_key.specs.Encoding.{record_at, records_at, AreAt}
use Rattle.tab_key.specs.Records.{Key, Record}
use Rattle.tab_key.proofs.Placed.{pushed_at}
use Rattle.tab_mem.proofs.Seeking.{blank}
use Rattle.tab_table.specs.Blocks.{no_key, entry_at, entry_end, place_behind, block_records, IsLaid}
use Rattle.tab_table.specs.Decoding.{untimed, key_at, AreRead, AreEntries, IsNext, IsDecoded, IsStanding, IsKept}
use Rattle.tab_table.proofs.Begun.{none_decoded}
use Rattle.tab_table.proofs.Moved.{moved_entries}
use Rattle.tab_table.proofs.Laid.{next_base, entry_there, record_there}
use Rattle.tab_table.proofs.Onward.{decoded_more}

module _ (body : List ℕ) (count first : ℕ) (laid : IsLaid body 0 no_key 0 count) (out : List ℕ) where
  -- one behind the other
  decoded_all : (done xs : List ℕ) (key last : Key) (p at : ℕ) → AreAt out done → AreAt out xs → IsDecoded out done key p body count first → first + length (done ++ xs) ≤ count → AreRead out key xs body p at last → IsDecoded out (done ++ xs) last at body count first
  decoded_all done [] key last p at w v d le r =
      subst (λ ps. IsDecoded out ps last at body count first) (sym (append-nil done))
      (subst (λ k. IsDecoded out done k at body count first) r.1 (subst (λ n. IsDecoded out done key n body count first) r.0 d))
  decoded_all done (x ∷ xs) key last p at w v d le r =
      let front : take (length out) out ≡ out = take_all (length out) out (omega arith) in
      let lt : first + length done < count = omega (arith, le, length-append done (x ∷ xs)) in
      let more = decoded_more body count laid out out done key p first w d lt x front r.0 in
      let read : key_at out x ≡ untimed (entry_at key body p).key = ap (λ u. untimed u.key) r.0 in
      let there : AreAt out (done ++ x ∷ []) = pushed_at out out done (done ++ x ∷ []) x refl front w v.0 in
      let behind : (done ++ x ∷ []) ++ xs ≡ done ++ x ∷ xs = append_assoc done (x ∷ []) xs in
      subst (λ ps. IsDecoded out ps last at body count first) behind
      (decoded_all (done ++ x ∷ []) xs (key_at out x) last (entry_end body p) at there v.1 (subst (λ k. IsDecoded out (done ++ x ∷ []) k (entry_end body p) body count first) (sym read) more) (subst (λ ps. first + length ps ≤ count) (sym behind) le) r.1)

  module _ (place : ℕ) (here : place ≡ place_behind body 0 first) where
    abbrev base_there : Key
    base_there = next_base body 0 no_key 0 first

    next_there : (u : Record) → first < count → IsNext base_there body place (slice_index_or (block_records body count) first u)
    next_there u lt =
        subst (λ p. IsNext base_there body p (slice_index_or (block_records body count) first u)) (sym here)
        (record { entry = entry_there body 0 no_key 0 count first laid lt; reads = sym (record_there body 0 no_key 0 count first u lt) })

    all_decoded : (places : List ℕ) (at : ℕ) (last : Key) → AreAt out places → 0 < length places → first + length places ≤ count → AreEntries out places body place at last
        → ((u : Record) → (slice_index_or (block_records body count) first u).key ≡ (slice_index_or (records_at out places) 0 u).key)
        → IsDecoded out places last at body count first
    all_decoded [] at last within some le read keys = absurd (omega (arith, some))
    all_decoded (x ∷ xs) at last within some le read keys =
        let lt : first < count = omega (arith, le) in
        let there : entry_at base_there body place ≡ slice_index_or (block_records body count) first blank = (next_there blank lt).reads in
        let key : (record_at out x).key ≡ (entry_at base_there body place).key = sym (keys blank) ∙ sym (ap (λ (u : Record). u.key) there) in
        let own = read.0 in
        let reads : record_at out x ≡ entry_at base_there body place = λ i. record { key = key i; kind = (own i).kind; value = (own i).value; seq = (own i).seq; idx = (own i).idx } in
        let none : IsDecoded out [] base_there place body count first = none_decoded out base_there place body count first (omega (arith, lt)) here next_there in
        decoded_all [] (x ∷ xs) base_there last place at tt within none le (reads, read.1)

    pub recalled : (places : List ℕ) (base at : ℕ) (bytes : List ℕ) → AreAt out places → IsKept out places base bytes → 0 < length places → first + length places ≤ count → at ≡ place + length bytes → at ≤ length body → slice_range body place at ≡ bytes
        → ((u : Record) → (slice_index_or (block_records body count) first u).key ≡ (slice_index_or (records_at out places) 0 u).key)
        → IsStanding out places base at body count first
    recalled places base at bytes within kept some le end inside is_same keys =
        let last = key_at out base in
        let m : ℕ = length bytes in
        let all : slice_range bytes 0 (0 + m) ≡ bytes = take_all (0 + m - 0) bytes (omega arith) in
        let same : slice_range bytes 0 (0 + m) ≡ slice_range body place (place + m) = all ∙ sym is_same ∙ ap (slice_range body place) end in
        let whole : m ≡ 0 + m = omega arith in
        let moved : AreEntries out places body place (place + m) last = moved_entries bytes body 0 place m same (omega arith) (omega (arith, end, inside)) out places last 0 place 0 (omega arith) (omega arith) (subst (λ n. AreEntries out places bytes 0 n last) whole kept.read) in
        let read : AreEntries out places body place at last = subst (λ n. AreEntries out places body place n last) (sym end) moved in
        record {
          decoded = all_decoded places at last within some le read keys;
          there = kept.there;
          read = subst (λ n. AreEntries out places body n at last) here read;
        }
