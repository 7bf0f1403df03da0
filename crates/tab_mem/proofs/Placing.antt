-- Records in a body, behind which one more is put.
use Rattle.std.proofs.Common.{◌≡◌, ℕ, List, [], ◌∷◌, ◌++◌, ap, sym, subst, length, length-append, take, arith}
use Rattle.std.specs.Prelude.{true, int_le}
use Rattle.tab_key.specs.Encoding.{record_at, records_at, IsAt}
use Rattle.tab_key.specs.Records.{Record}
use Rattle.tab_key.proofs.Placed.{head_inside, pushed_at, pushed_records}
use Rattle.tab_iter.specs.Lists.{latest, HasI64Timestamps}
use Rattle.tab_mem.specs.RowIndex.{IsRowIndex}
use Rattle.tab_mem.specs.Lists.{ArePacked, IsIndexed}
use Rattle.tab_mem.proofs.Written.{timestamps_first, timestamps_both}

pub packed_more : (old new places now : List ℕ) (p : ℕ) (r : Record) → now ≡ places ++ p ∷ [] → take (length old) new ≡ old → ArePacked old places → IsAt new p → record_at new p ≡ r → int_le r.key.timestamp latest ≡ true → ArePacked new now
packed_more old new places now p r is front a there reads fits = record {
  at = pushed_at old new places now p is front a.at there;
  timestamps = subst HasI64Timestamps (sym (pushed_records old new places now p r is front a.at reads)) (timestamps_both (records_at old places) (r ∷ []) a.timestamps (timestamps_first r [] fits (λ u h. absurd h)));
}

-- .. and whose row their index has taken note of
pub indexed_more : (old new places now before after : List ℕ) (p : ℕ) (r : Record) → p ≡ length old → now ≡ places ++ p ∷ [] → take (length old) new ≡ old → IsIndexed old places before → IsAt new p → record_at new p ≡ r → int_le r.key.timestamp latest ≡ true → IsRowIndex after (records_at old places ++ r ∷ []) → IsIndexed new now after
indexed_more old new places now before after p r end is front h there reads fits noted = record {
  packed = packed_more old new places now p r is front h.packed there reads fits;
  room = omega (arith, h.room, end, head_inside new p there, ap length is, length-append places (p ∷ []));
  row_index = subst (IsRowIndex after) (sym (pushed_records old new places now p r is front h.packed.at reads)) noted;
}
