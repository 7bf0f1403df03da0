-- Decoding begins at a restart.
use Rattle.std.proofs.Common.{◌≡◌, ℕ, ◌+◌, ◌<◌, ◌≤◌, List, [], ◌++◌, sym, ◌∙◌, ap, subst, length, take, arith, take-take, take_at}
use Rattle.std.specs.Prelude.{pos, slice_index_or}
use Rattle.std.specs.List.{slice_range}
use Rattle.std.proofs.lemmas.List.{length-take-le, length-take}
use Rattle.std.proofs.Math.ListN.{drop_of_length-le}
use Rattle.tab_key.specs.Encoding.{length_at, record_at, IsShort}
use Rattle.tab_key.specs.Records.{Key, Record}
use Rattle.tab_table.specs.Blocks.{no_key, entry_at, shared_key, IsLaid, place_behind, block_records}
use Rattle.tab_mem.proofs.Seeking.{blank}
use Rattle.tab_table.specs.Decoding.{IsNext, IsDecoded}
use Rattle.tab_table.specs.Restarts.{IsRestart}
use Rattle.tab_table.specs.declared.restarts.Restart.{Restart}
use Rattle.tab_table.proofs.Laid.{next_base, entry_there, record_there}

-- ---- what a part shares serves as its base
pub kept_long : (c : ℕ) (base rest u : List ℕ) → c ≤ length base → take c base ++ rest ≡ u → take c u ≡ take c base
kept_long c base rest u le is = ap (take c) (sym is) ∙ take_at (take c base) rest c (length-take-le c base le)

pub serves : (c : ℕ) (base rest u : List ℕ) → c ≤ length base → take c base ++ rest ≡ u → c ≤ length (take c u)
serves c base rest u le is = omega (arith, ap length (kept_long c base rest u le is), length-take-le c base le)

pub again : (c : ℕ) (base rest u : List ℕ) → c ≤ length base → take c base ++ rest ≡ u → take c (take c u) ++ rest ≡ u
again c base rest u le is = ap (λ xs. xs ++ rest) (take-take c c u (omega arith) ∙ kept_long c base rest u le is) ∙ is

pub begun : (base : Key) (body : List ℕ) (p : ℕ) (u : Record) → IsNext base body p u → IsNext (shared_key body p u.key) body p u
begun base body p u e =
    let rest = record_at body (p + 16) in
    let row : take (length_at body p) base.row ++ rest.key.row ≡ u.key.row = ap (λ (v : Record). v.key.row) e.reads in
    let family : take (length_at body (p + 4)) base.family ++ rest.key.family ≡ u.key.family = ap (λ (v : Record). v.key.family) e.reads in
    let qualifier : take (length_at body (p + 8)) base.qualifier ++ rest.key.qualifier ≡ u.key.qualifier = ap (λ (v : Record). v.key.qualifier) e.reads in
    let label : take (length_at body (p + 12)) base.label ++ rest.key.label ≡ u.key.label = ap (λ (v : Record). v.key.label) e.reads in
    let same : entry_at (shared_key body p u.key) body p ≡ u = λ i. record {
      key = record {
        row = again (length_at body p) base.row rest.key.row u.key.row e.entry.row row i;
        family = again (length_at body (p + 4)) base.family rest.key.family u.key.family e.entry.family family i;
        qualifier = again (length_at body (p + 8)) base.qualifier rest.key.qualifier u.key.qualifier e.entry.qualifier qualifier i;
        label = again (length_at body (p + 12)) base.label rest.key.label u.key.label e.entry.label label i;
        timestamp = (e.reads i).key.timestamp;
      };
      kind = (e.reads i).kind;
      value = (e.reads i).value;
      seq = (e.reads i).seq;
      idx = (e.reads i).idx;
    } in
    record {
      entry = record {
        row = serves (length_at body p) base.row rest.key.row u.key.row e.entry.row row;
        family = serves (length_at body (p + 4)) base.family rest.key.family u.key.family e.entry.family family;
        qualifier = serves (length_at body (p + 8)) base.qualifier rest.key.qualifier u.key.qualifier e.entry.qualifier qualifier;
        label = serves (length_at body (p + 12)) base.label rest.key.label u.key.label e.entry.label label;
        rest = e.entry.rest;
        short = subst IsShort (e.reads ∙ sym same) e.entry.short;
      };
      reads = same;
    }

-- ---- nothing is decoded yet
pub none_decoded : (out : List ℕ) (base : Key) (at : ℕ) (body : List ℕ) (count first : ℕ) → first ≤ count → at ≡ place_behind body 0 first → ((u : Record) → first < count → IsNext base body at (slice_index_or (block_records body count) first u)) → IsDecoded out [] base at body count first
none_decoded out base at body count first le here next =
    let same : first + 0 ≡ first = omega arith in
    let rs = block_records body count in
    record {
      inside = omega (arith, le);
      records = sym (drop_of_length-le (take (first + 0) rs) (omega (arith, length-take (first + 0) rs)));
      place = here ∙ ap (place_behind body 0) (sym same);
      next = λ u lt. subst (λ m. IsNext base body at (slice_index_or rs m u)) (sym same) (next u (omega (arith, lt)));
    }

-- .. behind a restart
pub restarted : (body shares out : List ℕ) (count index : ℕ) (r : Restart) (row family qualifier label : List ℕ) → IsLaid body 0 no_key 0 count → index < count → ((u : Record) → IsRestart body shares index (slice_index_or (block_records body count) index u) r)
    → row ≡ slice_range shares r.from (r.from + length_at body r.place)
    → family ≡ slice_range shares (r.from + length_at body r.place) (r.from + length_at body r.place + length_at body (r.place + 4))
    → qualifier ≡ slice_range shares (r.from + length_at body r.place + length_at body (r.place + 4)) (r.from + length_at body r.place + length_at body (r.place + 4) + length_at body (r.place + 8))
    → label ≡ slice_range shares (r.from + length_at body r.place + length_at body (r.place + 4) + length_at body (r.place + 8)) (r.from + length_at body r.place + length_at body (r.place + 4) + length_at body (r.place + 8) + length_at body (r.place + 12))
    → IsDecoded out [] (record { row = row; family = family; qualifier = qualifier; label = label; timestamp = pos 0 }) r.place body count index
restarted body shares out count index r row family qualifier label laid lt is e f g h =
    let base : Key = record { row = row; family = family; qualifier = qualifier; label = label; timestamp = pos 0 } in
    let here : r.place ≡ place_behind body 0 index = (is blank).there in
    none_decoded out base r.place body count index (omega (arith, lt)) here
    (λ u less.
    let v = slice_index_or (block_records body count) index u in
    let own : IsNext (next_base body 0 no_key 0 index) body (place_behind body 0 index) v = record { entry = entry_there body 0 no_key 0 count index laid lt; reads = sym (record_there body 0 no_key 0 count index u lt) } in
    let there : IsNext (next_base body 0 no_key 0 index) body r.place v = subst (λ p. IsNext (next_base body 0 no_key 0 index) body p v) (sym here) own in
    let same : shared_key body r.place v.key ≡ base = λ i. record { row = sym (e ∙ (is u).kept.row) i; family = sym (f ∙ (is u).kept.family) i; qualifier = sym (g ∙ (is u).kept.qualifier) i; label = sym (h ∙ (is u).kept.label) i; timestamp = pos 0 } in
    subst (λ b. IsNext b body r.place v) same (begun (next_base body 0 no_key 0 index) body r.place v there))
