-- One record more behind those of which some are restarts.
use Rattle.std.proofs.Common.{◌≡◌, ◌≢◌, ℕ, zero, suc, ◌+◌, ◌*◌, ◌%◌, ◌<◌, ◌≤◌, List, [], ◌∷◌, ◌++◌, Bool, true, false, refl, sym, ◌∙◌, ap, subst, length, take, arith, append_assoc, append-nil, length-append}
use Rattle.std.specs.Prelude.{nat_lt}
use Rattle.std.specs.List.{slice_index_or}
use Rattle.std.proofs.lemmas.Bool.Decides.{nat_tests}
use Rattle.std.proofs.lemmas.List.{length-take-le, take_at}
use Rattle.std.proofs.Math.ListN.{get_or-append}
use Rattle.std.proofs.Math.Seq.{get_or-append_seam}
use Rattle.tab_key.specs.Encoding.{length_at}
use Rattle.tab_key.specs.Records.{Key, Record}
use Rattle.tab_key.proofs.Bodies.{same_part}
use Rattle.tab_key.proofs.Packed.{part_of}
use Rattle.tab_table.specs.Blocks.{no_key, base_of, entry_at, entry_end, IsEntry, IsLaid, place_behind, block_records}
use Rattle.tab_table.specs.Restarts.{HasShares, IsRestart, AreRestarts}
use Rattle.tab_table.specs.declared.restarts.Restart.{Restart}
use Rattle.tab_table.proofs.Inside.{counts_inside}
use Rattle.tab_table.proofs.Laid.{still_length, still_listed, still_place, length_listed, next_base, entry_there}

by_bool : {P : Type 0} (b : Bool) → (b ≡ true → P) → (b ≡ false → P) → P
by_bool true f g = f refl
by_bool false f g = g refl

-- ---- the bytes that were put
pub put_shares : (old shares : List ℕ) (a b c d : ℕ) (k : Key) → a ≤ length k.row → b ≤ length k.family → c ≤ length k.qualifier → d ≤ length k.label → shares ≡ old ++ (take a k.row ++ take b k.family ++ take c k.qualifier ++ take d k.label) → HasShares shares (length old) a b c d k
put_shares old shares a b c d k la lb lc ld is =
    let w = take a k.row in
    let x = take b k.family in
    let y = take c k.qualifier in
    let z = take d k.label in
    let lw : length w ≡ a = length-take-le a k.row la in
    let lx : length x ≡ b = length-take-le b k.family lb in
    let ly : length y ≡ c = length-take-le c k.qualifier lc in
    let lz : length z ≡ d = length-take-le d k.label ld in
    record {
      row = part_of shares old w (x ++ y ++ z) (length old) (length old + a) (is ∙ simp append_assoc) refl (omega (arith, lw));
      family = part_of shares (old ++ w) x (y ++ z) (length old + a) (length old + a + b) (is ∙ simp append_assoc) (simp length-append (omega (arith, lw))) (omega (arith, lx));
      qualifier = part_of shares (old ++ w ++ x) y z (length old + a + b) (length old + a + b + c) (is ∙ simp append_assoc) (simp length-append (omega (arith, lw, lx))) (omega (arith, ly));
      label = part_of shares (old ++ w ++ x ++ y) z [] (length old + a + b + c) (length old + a + b + c + d) (is ∙ simp (append_assoc, append-nil)) (simp length-append (omega (arith, lw, lx, ly))) (omega (arith, lz));
      inside = omega (arith, ap length is, simp length-append at (ap length is), lw, lx, ly, lz);
    }

-- what lies there stays when more is put behind it
more_shares : (old more : List ℕ) (from a b c d : ℕ) (k : Key) → HasShares old from a b c d k → HasShares (old ++ more) from a b c d k
more_shares old more from a b c d k h =
    let front : take (length old) (old ++ more) ≡ old = take_at old more (length old) refl in
    record {
      row = same_part old (old ++ more) front from (from + a) (omega arith) (omega (arith, h.inside)) ∙ h.row;
      family = same_part old (old ++ more) front (from + a) (from + a + b) (omega arith) (omega (arith, h.inside)) ∙ h.family;
      qualifier = same_part old (old ++ more) front (from + a + b) (from + a + b + c) (omega arith) (omega (arith, h.inside)) ∙ h.qualifier;
      label = same_part old (old ++ more) front (from + a + b + c) (from + a + b + c + d) (omega arith) (omega (arith, h.inside)) ∙ h.label;
      inside = omega (arith, h.inside, length-append old more);
    }

same_counts : (shares : List ℕ) (from a b c d x y z w : ℕ) (k : Key) → x ≡ a → y ≡ b → z ≡ c → w ≡ d → HasShares shares from a b c d k → HasShares shares from x y z w k
same_counts shares from a b c d x y z w k e f g h s =
    subst (λ n. HasShares shares from n y z w k) (sym e) (subst (λ n. HasShares shares from a n z w k) (sym f) (subst (λ n. HasShares shares from a b n w k) (sym g) (subst (λ n. HasShares shares from a b c n k) (sym h) s)))

-- ---- the body has grown
laid_first : (body : List ℕ) (p : ℕ) (before : Key) (k n i : ℕ) → i ≤ n → IsLaid body p before k n → IsLaid body p before k i
laid_first body p before k n zero le w = tt
laid_first body p before k zero (suc i) le w = absurd (omega (arith, le))
laid_first body p before k (suc n) (suc i) le w = (w.0, laid_first body (entry_end body p) (entry_at (base_of k before) body p).key (k + 1) n i (omega (arith, le)) w.1)

module _ (old new : List ℕ) (front : take (length old) new ≡ old) (n : ℕ) (laid : IsLaid old 0 no_key 0 n) where
  still_restart : (shares : List ℕ) (index : ℕ) (u : Record) (r : Restart) → index < n → IsRestart old shares index u r → IsRestart new shares index u r
  still_restart shares index u r lt h =
      let entry : IsEntry (next_base old 0 no_key 0 index) old (place_behind old 0 index) = entry_there old 0 no_key 0 n index laid lt in
      let inside : r.place + 57 ≤ length old = omega (arith, h.there, counts_inside old (place_behind old 0 index) entry.rest) in
      record {
        there = h.there ∙ sym (still_place old new front 0 no_key 0 index (laid_first old 0 no_key 0 n index (omega (arith, lt)) laid));
        kept = same_counts shares r.from (length_at old r.place) (length_at old (r.place + 4)) (length_at old (r.place + 8)) (length_at old (r.place + 12)) (length_at new r.place) (length_at new (r.place + 4)) (length_at new (r.place + 8)) (length_at new (r.place + 12)) u.key
            (still_length old new front r.place (omega (arith, inside))) (still_length old new front (r.place + 4) (omega (arith, inside))) (still_length old new front (r.place + 8) (omega (arith, inside))) (still_length old new front (r.place + 12) (omega (arith, inside))) h.kept;
      }

  pub still_restarts : (restarts : List Restart) (shares : List ℕ) → AreRestarts restarts old shares n → AreRestarts restarts new shares n
  still_restarts restarts shares h = record {
    all = h.all;
    few = h.few;
    each = λ j d u lt.
        let index : 16 * j < n = omega (arith, h.few, lt) in
        subst (λ (rs : List Record). IsRestart new shares (16 * j) (slice_index_or rs (16 * j) u) (slice_index_or restarts j d)) (sym (still_listed old new front 0 no_key 0 n laid))
        (still_restart shares (16 * j) (slice_index_or (block_records old n) (16 * j) u) (slice_index_or restarts j d) index (h.each j d u lt));
  }

-- ---- one record more, which the body has already
module _ (body : List ℕ) (n : ℕ) (r : Record) (more : block_records body (n + 1) ≡ block_records body n ++ r ∷ []) (restarts : List Restart) (shares : List ℕ) (h : AreRestarts restarts body shares n) where
  abbrev rs : List Record
  rs = block_records body n

  rs_long : length rs ≡ n
  rs_long = length_listed body 0 no_key 0 n

  -- those from before
  first_ones : (extra : List ℕ) (j : ℕ) (d : Restart) (u : Record) → j < length restarts → IsRestart body (shares ++ extra) (16 * j) (slice_index_or (block_records body (n + 1)) (16 * j) u) (slice_index_or restarts j d)
  first_ones extra j d u lt =
      let inside : 16 * j < length rs = omega (arith, h.few, lt, rs_long) in
      let one = h.each j d u lt in
      let at = slice_index_or restarts j d in
      subst (λ v. IsRestart body (shares ++ extra) (16 * j) v at) (sym (ap (λ us. slice_index_or us (16 * j) u) more ∙ get_or-append rs (r ∷ []) u (16 * j) inside))
      (record { there = one.there; kept = more_shares shares extra at.from (length_at body at.place) (length_at body (at.place + 4)) (length_at body (at.place + 8)) (length_at body (at.place + 12)) (slice_index_or rs (16 * j) u).key one.kept })

  pub not_noted : (n % 16 ≢ 0) → AreRestarts restarts body shares (n + 1)
  not_noted other = record {
    all = omega (arith, h.all, h.few, other);
    few = omega (arith, h.few);
    each = λ j d u lt. subst (λ s. IsRestart body s (16 * j) (slice_index_or (block_records body (n + 1)) (16 * j) u) (slice_index_or restarts j d)) (append-nil shares) (first_ones [] j d u lt);
  }

  pub noted : (extra : List ℕ) (at : Restart) → n % 16 ≡ 0 → IsRestart body (shares ++ extra) n r at → AreRestarts (restarts ++ at ∷ []) body (shares ++ extra) (n + 1)
  noted extra at e own = record {
    all = omega (arith, one_more, full);
    few = omega (arith, one_more, full);
    each = each;
  }
    where
      one_more : length (restarts ++ at ∷ []) ≡ length restarts + 1
      one_more = length-append restarts (at ∷ [])

      full : 16 * length restarts ≡ n
      full = omega (arith, h.all, h.few, e)

      each : (j : ℕ) (d : Restart) (u : Record) → j < length (restarts ++ at ∷ []) → IsRestart body (shares ++ extra) (16 * j) (slice_index_or (block_records body (n + 1)) (16 * j) u) (slice_index_or (restarts ++ at ∷ []) j d)
      each j d u lt = by_bool (nat_lt j (length restarts))
          (λ t. let first : j < length restarts = grind (arith, nat_tests) in
          subst (λ a. IsRestart body (shares ++ extra) (16 * j) (slice_index_or (block_records body (n + 1)) (16 * j) u) a) (sym (get_or-append restarts (at ∷ []) d j first)) (first_ones extra j d u first))
          (λ f. let le : length restarts ≤ j = grind (arith, nat_tests) in
          let last : j ≡ length restarts = omega (arith, le, lt, one_more) in
          let there : 16 * j ≡ n = omega (arith, last, full) in
          let own_record : slice_index_or (block_records body (n + 1)) (16 * j) u ≡ r = ap (λ us. slice_index_or us (16 * j) u) more ∙ ap (λ k. slice_index_or (rs ++ r ∷ []) k u) (there ∙ sym rs_long) ∙ get_or-append_seam rs r [] u in
          let own_place : slice_index_or (restarts ++ at ∷ []) j d ≡ at = ap (λ k. slice_index_or (restarts ++ at ∷ []) k d) last ∙ get_or-append_seam restarts at [] d in
          subst (λ a. IsRestart body (shares ++ extra) (16 * j) (slice_index_or (block_records body (n + 1)) (16 * j) u) a) (sym own_place)
          (subst (λ v. IsRestart body (shares ++ extra) (16 * j) v at) (sym own_record)
          (subst (λ k. IsRestart body (shares ++ extra) k r at) (sym there) own)))
