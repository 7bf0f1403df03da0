-- What is known of a byte of a record to which one walks from a restart.
use Rattle.std.proofs.Common.{◌≡◌, ℕ, suc, ◌+◌, ◌<◌, List, refl, sym, ◌∙◌, ap, subst, length, get_or, arith}
use Rattle.std.specs.List.{slice_index_or}
use Rattle.std.proofs.lemmas.List.{get_or_default}
use Rattle.tab_key.specs.Encoding.{length_at, record_at}
use Rattle.tab_key.specs.Records.{Key, Record}
use Rattle.tab_mem.proofs.Seeking.{blank}
use Rattle.tab_table.specs.Blocks.{no_key, entry_at, entry_end, shared_key, IsEntry, IsLaid, place_behind, block_records}
use Rattle.tab_table.specs.Decoding.{untimed, IsNext}
use Rattle.tab_table.specs.PartBytes.{part_of, IsFound, IsRestOf}
use Rattle.tab_table.specs.Restarts.{HasShares, IsRestart}
use Rattle.tab_table.specs.declared.part_bytes.KeyPart.{KeyPart}
use Rattle.tab_table.specs.declared.part_bytes.KeyPart.TheVariants.{Row, Family, Qualifier, Label}
use Rattle.tab_table.specs.declared.restarts.Restart.{Restart}
use Rattle.tab_table.proofs.Laid.{length_listed, next_base, place_more, entry_there, record_there}
use Rattle.tab_table.proofs.Onward.{next_here}
use Rattle.tab_table.proofs.Walked.{at_restart}

-- what the byte of the shared bytes says, and what a step says
abbrev pub Shares : List ℕ → List ℕ → Restart → KeyPart → List ℕ → Type 0
Shares body shares r part slice = (k : Key) → HasShares shares r.from (length_at body r.place) (length_at body (r.place + 4)) (length_at body (r.place + 8)) (length_at body (r.place + 12)) k → slice ≡ part_of part (shared_key body r.place k)

abbrev pub Reads : List ℕ → ℕ → KeyPart → ℕ → ℕ → ℕ → Type 0
Reads body place part i a b = (base : Key) → IsEntry base body place → a ≡ get_or (part_of part base) i 0 → b ≡ get_or (part_of part (entry_at base body place).key) i 0

untimed_part : (part : KeyPart) (k : Key) → part_of part (untimed k) ≡ part_of part k
untimed_part Row k = refl
untimed_part Family k = refl
untimed_part Qualifier k = refl
untimed_part Label k = refl

module _ (body : List ℕ) (count : ℕ) (laid : IsLaid body 0 no_key 0 count) where
  abbrev rs : List Record
  rs = block_records body count

  pub found_begun : (shares : List ℕ) (index : ℕ) (r : Restart) (part : KeyPart) (i a b : ℕ) (slice : List ℕ) → index < count → ((u : Record) → IsRestart body shares index (slice_index_or rs index u) r) → Shares body shares r part slice → a ≡ get_or slice i 0 → Reads body r.place part i a b → IsFound body count b r.place index part i
  found_begun shares index r part i a b slice lt is begins first steps = record {
    here = (is blank).there;
    read = λ u.
        let v = slice_index_or rs index u in
        let own = at_restart body count laid shares index u r lt (is u) in
        steps (shared_key body r.place v.key) own.entry (first ∙ ap (λ xs. get_or xs i 0) (begins v.key (is u).kept)) ∙ ap (λ (w : Record). get_or (part_of part w.key) i 0) own.reads;
  }

  pub found_on : (index place : ℕ) (part : KeyPart) (i a b : ℕ) → suc index < count → IsFound body count a place index part i → Reads body (entry_end body place) part i a b → IsFound body count b (entry_end body place) (suc index) part i
  found_on index place part i a b lt w steps =
      let next : entry_end body place ≡ place_behind body 0 (suc index) = ap (entry_end body) w.here ∙ sym (place_more body 0 index) in
      let r = slice_index_or rs index blank in
      let inside : index < length rs = omega (arith, lt, length_listed body 0 no_key 0 count) in
      let same : r ≡ slice_index_or rs index r = get_or_default rs index blank r inside in
      let known : a ≡ get_or (part_of part (untimed r.key)) i 0 = w.read blank ∙ sym (ap (λ xs. get_or xs i 0) (untimed_part part r.key)) in
      record {
        here = next;
        read = λ u.
            let own = next_here body count laid index r u lt same in
            let there : IsNext (untimed r.key) body (entry_end body place) (slice_index_or rs (suc index) u) = subst (λ p. IsNext (untimed r.key) body p (slice_index_or rs (suc index) u)) (sym next) own in
            steps (untimed r.key) there.entry known ∙ ap (λ (v : Record). get_or (part_of part v.key) i 0) there.reads;
      }

  -- the entry of the record with an index, and what it has of its own
  pub entry_of : (index place : ℕ) (u : Record) → index < count → place ≡ place_behind body 0 index → IsNext (next_base body 0 no_key 0 index) body place (slice_index_or rs index u)
  entry_of index place u lt is = subst (λ p. IsNext (next_base body 0 no_key 0 index) body p (slice_index_or rs index u)) (sym is) (record { entry = entry_there body 0 no_key 0 count index laid lt; reads = sym (record_there body 0 no_key 0 count index u lt) })

  pub rest_there : (index place : ℕ) (u : Record) → index < count → place ≡ place_behind body 0 index → IsRestOf (record_at body (place + 16)) (slice_index_or rs index u)
  rest_there index place u lt is =
      let e = (entry_of index place u lt is).reads in
      record {
        timestamp = ap (λ (r : Record). r.key.timestamp) e;
        kind = ap (λ (r : Record). r.kind) e;
        value = ap (λ (r : Record). r.value) e;
        seq = ap (λ (r : Record). r.seq) e;
        idx = ap (λ (r : Record). r.idx) e;
      }
