-- What is known of the row of a record to which one walks from a restart.
use Rattle.std.proofs.Common.{◌≡◌, ℕ, suc, ◌<◌, List, sym, ◌∙◌, ap, subst, length, arith}
use Rattle.std.specs.List.{slice_index_or}
use Rattle.std.proofs.lemmas.List.{get_or_default}
use Rattle.tab_key.specs.Records.{Key, Record}
use Rattle.tab_mem.proofs.Seeking.{blank}
use Rattle.tab_table.specs.Blocks.{no_key, entry_at, entry_end, shared_key, IsEntry, IsLaid, place_behind, block_records}
use Rattle.tab_table.specs.Decoding.{untimed, IsNext}
use Rattle.tab_table.specs.PartBytes.{IsRowFound}
use Rattle.tab_table.specs.Restarts.{IsRestart}
use Rattle.tab_table.specs.declared.part_bytes.KeyPart.TheVariants.{Row}
use Rattle.tab_table.specs.declared.restarts.Restart.{Restart}
use Rattle.tab_table.proofs.Laid.{length_listed, place_more}
use Rattle.tab_table.proofs.Onward.{next_here}
use Rattle.tab_table.proofs.Spotted.{Shares}
use Rattle.tab_table.proofs.Walked.{at_restart}

-- what a step says
abbrev pub ReadsRow : List ℕ → ℕ → List ℕ → List ℕ → Type 0
ReadsRow body place a b = (base : Key) → IsEntry base body place → a ≡ base.row → b ≡ (entry_at base body place).key.row

module _ (body : List ℕ) (count : ℕ) (laid : IsLaid body 0 no_key 0 count) where
  abbrev rs : List Record
  rs = block_records body count

  pub row_begun : (shares : List ℕ) (index : ℕ) (r : Restart) (a b : List ℕ) → index < count → ((u : Record) → IsRestart body shares index (slice_index_or rs index u) r) → Shares body shares r Row a → ReadsRow body r.place a b → (u : Record) → b ≡ (slice_index_or rs index u).key.row
  row_begun shares index r a b lt is begins steps u =
      let v = slice_index_or rs index u in
      let own = at_restart body count laid shares index u r lt (is u) in
      steps (shared_key body r.place v.key) own.entry (begins v.key (is u).kept) ∙ ap (λ (w : Record). w.key.row) own.reads

  pub row_on : (index place : ℕ) (a b : List ℕ) → suc index < count → IsRowFound body count a place index → ReadsRow body (entry_end body place) a b → IsRowFound body count b (entry_end body place) (suc index)
  row_on index place a b lt w steps =
      let next : entry_end body place ≡ place_behind body 0 (suc index) = ap (entry_end body) w.here ∙ sym (place_more body 0 index) in
      let r = slice_index_or rs index blank in
      let inside : index < length rs = omega (arith, lt, length_listed body 0 no_key 0 count) in
      let same : r ≡ slice_index_or rs index r = get_or_default rs index blank r inside in
      record {
        here = next;
        read = λ u.
            let own = next_here body count laid index r u lt same in
            let there : IsNext (untimed r.key) body (entry_end body place) (slice_index_or rs (suc index) u) = subst (λ p. IsNext (untimed r.key) body p (slice_index_or rs (suc index) u)) (sym next) own in
            steps (untimed r.key) there.entry (w.read blank) ∙ ap (λ (v : Record). v.key.row) there.reads;
      }
