-- What is known of a record to which one walks from a restart.
use Rattle.std.proofs.Common.{◌≡◌, ℕ, suc, ◌+◌, ◌*◌, ◌<◌, List, sym, ◌∙◌, ap, subst, length, arith}
use Rattle.std.specs.List.{slice_index_or}
use Rattle.std.proofs.lemmas.List.{get_or_default}
use Rattle.std.specs.Ordering.{int_cmp, ordering_then}
use Rattle.std.specs.declared.cmp.Ordering.TheVariants.{Equal}
use Rattle.tab_key.specs.Encoding.{length_at, record_at, IsAt}
use Rattle.tab_key.specs.Order.{column_cmp, key_cmp}
use Rattle.tab_key.specs.Records.{Key, Record}
use Rattle.tab_mem.proofs.Seeking.{blank}
use Rattle.tab_table.specs.Agreements.{AreAgreements, IsWalked}
use Rattle.tab_table.specs.Blocks.{no_key, entry_at, entry_end, shared_key, IsEntry, IsLaid, place_behind, block_records}
use Rattle.tab_table.specs.Decoding.{untimed, IsNext}
use Rattle.tab_table.specs.Restarts.{HasShares, IsRestart, AreRestarts}
use Rattle.tab_table.specs.declared.key_agreement.KeyAgreement.{KeyAgreement}
use Rattle.tab_table.specs.declared.restarts.Restart.{Restart}
use Rattle.tab_table.proofs.Begun.{begun}
use Rattle.tab_table.proofs.Laid.{length_listed, next_base, place_more, entry_there, record_there}
use Rattle.tab_table.proofs.Onward.{next_here}

-- what a step says
abbrev pub Steps : List ℕ → ℕ → Key → KeyAgreement → KeyAgreement → Type 0
Steps body place sought a b = (base : Key) → IsEntry base body place → AreAgreements a base sought → AreAgreements b (entry_at base body place).key sought

-- .. and what is known where walking begins
abbrev pub Begins : List ℕ → List ℕ → Restart → Key → KeyAgreement → Type 0
Begins body shares r sought a = (k : Key) → HasShares shares r.from (length_at body r.place) (length_at body (r.place + 4)) (length_at body (r.place + 8)) (length_at body (r.place + 12)) k → AreAgreements a (shared_key body r.place k) sought

module _ (body : List ℕ) (count : ℕ) (laid : IsLaid body 0 no_key 0 count) where
  abbrev rs : List Record
  rs = block_records body count

  -- at a restart the record is read on what it shares
  pub at_restart : (shares : List ℕ) (index : ℕ) (u : Record) (r : Restart) → index < count → IsRestart body shares index (slice_index_or rs index u) r → IsNext (shared_key body r.place (slice_index_or rs index u).key) body r.place (slice_index_or rs index u)
  at_restart shares index u r lt is =
      let v = slice_index_or rs index u in
      let own : IsNext (next_base body 0 no_key 0 index) body (place_behind body 0 index) v = record { entry = entry_there body 0 no_key 0 count index laid lt; reads = sym (record_there body 0 no_key 0 count index u lt) } in
      begun (next_base body 0 no_key 0 index) body r.place v (subst (λ p. IsNext (next_base body 0 no_key 0 index) body p v) (sym is.there) own)

  pub entry_here : (index : ℕ) → index < count → IsAt body (place_behind body 0 index + 16)
  entry_here index lt = (entry_there body 0 no_key 0 count index laid lt).rest

  -- the first step
  pub walk_begun : (shares : List ℕ) (index : ℕ) (r : Restart) (a b : KeyAgreement) (sought : Key) → index < count → ((u : Record) → IsRestart body shares index (slice_index_or rs index u) r) → Begins body shares r sought a → Steps body r.place sought a b → IsWalked body count b r.place index sought
  walk_begun shares index r a b sought lt is begins steps = record {
    here = (is blank).there;
    agree = λ u.
        let v = slice_index_or rs index u in
        let own = at_restart shares index u r lt (is u) in
        subst (λ (w : Record). AreAgreements b w.key sought) own.reads (steps (shared_key body r.place v.key) own.entry (begins v.key (is u).kept));
  }

  -- one more
  pub walk_on : (index place : ℕ) (a b : KeyAgreement) (sought : Key) → suc index < count → IsWalked body count a place index sought → Steps body (entry_end body place) sought a b → IsWalked body count b (entry_end body place) (suc index) sought
  walk_on index place a b sought lt w steps =
      let next : entry_end body place ≡ place_behind body 0 (suc index) = ap (entry_end body) w.here ∙ sym (place_more body 0 index) in
      let r = slice_index_or rs index blank in
      let inside : index < length rs = omega (arith, lt, length_listed body 0 no_key 0 count) in
      let same : r ≡ slice_index_or rs index r = get_or_default rs index blank r inside in
      let known = w.agree blank in
      let untimed_known : AreAgreements a (untimed r.key) sought = record { rows = known.rows; families = known.families; qualifiers = known.qualifiers; labels = known.labels } in
      record {
        here = next;
        agree = λ u.
            let own = next_here body count laid index r u lt same in
            let there : IsNext (untimed r.key) body (entry_end body place) (slice_index_or rs (suc index) u) = subst (λ p. IsNext (untimed r.key) body p (slice_index_or rs (suc index) u)) (sym next) own in
            subst (λ (v : Record). AreAgreements b v.key sought) there.reads (steps (untimed r.key) there.entry untimed_known);
      }

  -- ---- the restarts
  pub record IsThere (shares : List ℕ) (index : ℕ) (r : Restart) : Type 0 where
    pub is : (u : Record) → IsRestart body shares index (slice_index_or rs index u) r
    pub rest : IsAt body (r.place + 16)

  pub restart_there : (each : List Restart) (shares : List ℕ) → AreRestarts each body shares count → (j : ℕ) (r : Restart) → 16 * j < count → slice_index_or each j r ≡ r → IsThere shares (16 * j) r
  restart_there each shares h j r lt same =
      let low : j < length each = omega (arith, h.all, lt) in
      let is : (u : Record) → IsRestart body shares (16 * j) (slice_index_or rs (16 * j) u) r = λ u. subst (IsRestart body shares (16 * j) (slice_index_or rs (16 * j) u)) same (h.each j r u low) in
      record { is = is; rest = subst (λ p. IsAt body (p + 16)) (sym (is blank).there) (entry_here (16 * j) lt) }

  -- the entry behind one
  pub entry_next : (index place : ℕ) → suc index < count → place ≡ place_behind body 0 index → IsAt body (entry_end body place + 16)
  entry_next index place lt is = subst (λ p. IsAt body (p + 16)) (place_more body 0 index ∙ ap (entry_end body) (sym is)) (entry_here (suc index) lt)

  -- its timestamp
  pub time_there : (index place : ℕ) (u : Record) → index < count → place ≡ place_behind body 0 index → (record_at body (place + 16)).key.timestamp ≡ (slice_index_or rs index u).key.timestamp
  time_there index place u lt is = ap (λ p. (record_at body (p + 16)).key.timestamp) is ∙ sym (ap (λ (r : Record). r.key.timestamp) (record_there body 0 no_key 0 count index u lt))

-- ---- the order of keys, behind that of columns
pub key_equal : (a b : Key) → column_cmp a b ≡ Equal → int_cmp b.timestamp a.timestamp ≡ key_cmp a b
unfolding key_cmp
key_equal a b e = sym (ap (λ o. ordering_then o (int_cmp b.timestamp a.timestamp)) e)
