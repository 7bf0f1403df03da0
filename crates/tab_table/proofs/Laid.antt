-- Entries that lie one behind the other in a body.
use Rattle.std.proofs.Common.{◌≡◌, inl, inr, ℕ, zero, suc, ◌+◌, ◌<◌, ◌≤◌, List, [], ◌∷◌, ◌++◌, refl, sym, ◌∙◌, ap, subst, length, take, arith}
use Rattle.std.specs.Int.{w32, from_be_bytes}
use Rattle.std.specs.List.{slice_index_or}
use Rattle.tab_key.specs.Encoding.{length_at, span_at, record_at, IsAt, IsShort, AreAt}
use Rattle.tab_key.specs.RecordSpans.{record_in, IsWithin}
use Rattle.tab_key.specs.Records.{Key, Record}
use Rattle.tab_key.specs.declared.record_span.RecordSpan.{RecordSpan}
use Rattle.tab_key.proofs.Bodies.{same_part, no_shorter, same_record}
use Rattle.tab_key.proofs.Placed.{head_inside, same_span}
use Rattle.tab_mem.specs.Lists.{HasShortParts}
use Rattle.tab_table.specs.Blocks.{base_of, rebuilt, entry_at, entry_end, size_behind, sizes_from, listed, IsEntry, IsLaid, place_behind, key_behind}

-- ---- what lies in a body is read alike after the body has grown
module _ (old new : List ℕ) (front : take (length old) new ≡ old) where
  pub still_length : (p : ℕ) → p + 4 ≤ length old → length_at new p ≡ length_at old p
  unfolding length_at
  still_length p low = ap (from_be_bytes w32) (same_part old new front p (p + 4) (omega arith) low)

  pub still_record : (p : ℕ) → IsAt old p → record_at new p ≡ record_at old p
  still_record p w = ap (record_in new) (same_span old new p front (head_inside old p w)) ∙ same_record old new (span_at old p) front w.within

  pub still_at : (p : ℕ) → IsAt old p → IsAt new p
  still_at p w =
      let longer : length old ≤ length new = no_shorter old new front in
      let old_one = w.within in
      record {
        within = subst (IsWithin new) (sym (same_span old new p front (head_inside old p w))) (record { row = old_one.row; family = old_one.family; qualifier = old_one.qualifier; label = old_one.label; value = old_one.value; whole = omega (arith, longer, old_one.whole) });
        short = subst IsShort (sym (still_record p w)) w.short;
      }

  -- .. so many records as well
  pub still_there : (ps : List ℕ) → AreAt old ps → AreAt new ps
  still_there [] w = tt
  still_there (p ∷ ps) w = (still_at p w.0, still_there ps w.1)

  still_entry : (base : Key) (p : ℕ) → IsEntry base old p → entry_at base new p ≡ entry_at base old p
  still_entry base p w =
      let inside : p + 16 + 41 ≤ length old = head_inside old (p + 16) w.rest in
      let row = still_length p (omega (arith, inside)) in
      let family = still_length (p + 4) (omega (arith, inside)) in
      let qualifier = still_length (p + 8) (omega (arith, inside)) in
      let label = still_length (p + 12) (omega (arith, inside)) in
      let rest = still_record (p + 16) w.rest in
      λ i. rebuilt base (row i) (family i) (qualifier i) (label i) (rest i)

  still_is_entry : (base : Key) (p : ℕ) → IsEntry base old p → IsEntry base new p
  still_is_entry base p w =
      let inside : p + 16 + 41 ≤ length old = head_inside old (p + 16) w.rest in
      record {
        row = subst (λ n. n ≤ length base.row) (sym (still_length p (omega (arith, inside)))) w.row;
        family = subst (λ n. n ≤ length base.family) (sym (still_length (p + 4) (omega (arith, inside)))) w.family;
        qualifier = subst (λ n. n ≤ length base.qualifier) (sym (still_length (p + 8) (omega (arith, inside)))) w.qualifier;
        label = subst (λ n. n ≤ length base.label) (sym (still_length (p + 12) (omega (arith, inside)))) w.label;
        rest = still_at (p + 16) w.rest;
        short = subst IsShort (sym (still_entry base p w)) w.short;
      }

  still_end : (base : Key) (p : ℕ) → IsEntry base old p → entry_end new p ≡ entry_end old p
  still_end base p w = ap (λ (s : RecordSpan). s.end) (same_span old new (p + 16) front (head_inside old (p + 16) w.rest))

  pub still_listed : (p : ℕ) (before : Key) (k n : ℕ) → IsLaid old p before k n → listed new p before k n ≡ listed old p before k n
  still_listed p before k zero w = refl
  still_listed p before k (suc n) w =
      let base = base_of k before in
      let end = still_end base p w.0 in
      let same = still_entry base p w.0 in
      (λ i. same i ∷ listed new (end i) (same i).key (k + 1) n) ∙ ap (λ rs. entry_at base old p ∷ rs) (still_listed (entry_end old p) (entry_at base old p).key (k + 1) n w.1)

  pub still_laid : (p : ℕ) (before : Key) (k n : ℕ) → IsLaid old p before k n → IsLaid new p before k n
  still_laid p before k zero w = tt
  still_laid p before k (suc n) w =
      let base = base_of k before in
      let end = still_end base p w.0 in
      let same = still_entry base p w.0 in
      (still_is_entry base p w.0, subst (λ q. IsLaid new q (entry_at base new p).key (k + 1) n) (sym end) (subst (λ (r : Record). IsLaid new (entry_end old p) r.key (k + 1) n) (sym same) (still_laid (entry_end old p) (entry_at base old p).key (k + 1) n w.1)))

  pub still_place : (p : ℕ) (before : Key) (k n : ℕ) → IsLaid old p before k n → place_behind new p n ≡ place_behind old p n
  still_place p before k zero w = refl
  still_place p before k (suc n) w = ap (λ q. place_behind new q n) (still_end (base_of k before) p w.0) ∙ still_place (entry_end old p) (entry_at (base_of k before) old p).key (k + 1) n w.1

-- ---- one entry more
pub length_listed : (body : List ℕ) (p : ℕ) (before : Key) (k n : ℕ) → length (listed body p before k n) ≡ n
length_listed body p before k zero = refl
length_listed body p before k (suc n) = ap suc (length_listed body (entry_end body p) (entry_at (base_of k before) body p).key (k + 1) n)

-- the base of the next record
abbrev pub next_base : List ℕ → ℕ → Key → ℕ → ℕ → Key
next_base body p before k n = base_of (k + n) (key_behind before (listed body p before k n))

moved_base : (body : List ℕ) (p : ℕ) (before : Key) (k n : ℕ) → next_base body (entry_end body p) (entry_at (base_of k before) body p).key (k + 1) n ≡ next_base body p before k (suc n)
moved_base body p before k n = let same : k + 1 + n ≡ k + suc n = omega arith in ap (λ j. base_of j (key_behind (entry_at (base_of k before) body p).key (listed body (entry_end body p) (entry_at (base_of k before) body p).key (k + 1) n))) same

first_base : (before : Key) (k : ℕ) → base_of k before ≡ base_of (k + 0) before
first_base before k = let same : k ≡ k + 0 = omega arith in ap (λ j. base_of j before) same

pub listed_more : (body : List ℕ) (p : ℕ) (before : Key) (k n : ℕ) → listed body p before k (suc n) ≡ listed body p before k n ++ entry_at (next_base body p before k n) body (place_behind body p n) ∷ []
listed_more body p before k zero = ap (λ b. entry_at b body p ∷ []) (first_base before k)
listed_more body p before k (suc n) =
    let base = base_of k before in
    ap (λ rs. entry_at base body p ∷ rs)
    (listed_more body (entry_end body p) (entry_at base body p).key (k + 1) n
    ∙ ap (λ b. listed body (entry_end body p) (entry_at base body p).key (k + 1) n ++ entry_at b body (place_behind body (entry_end body p) n) ∷ []) (moved_base body p before k n))

pub laid_more : (body : List ℕ) (p : ℕ) (before : Key) (k n : ℕ) → IsLaid body p before k n → IsEntry (next_base body p before k n) body (place_behind body p n) → IsLaid body p before k (suc n)
laid_more body p before k zero w e = (subst (λ b. IsEntry b body p) (sym (first_base before k)) e, tt)
laid_more body p before k (suc n) w e =
    let base = base_of k before in
    (w.0, laid_more body (entry_end body p) (entry_at base body p).key (k + 1) n w.1 (subst (λ b. IsEntry b body (place_behind body (entry_end body p) n)) (sym (moved_base body p before k n)) e))

pub place_more : (body : List ℕ) (p n : ℕ) → place_behind body p (suc n) ≡ entry_end body (place_behind body p n)
place_more body p zero = refl
place_more body p (suc n) = place_more body (entry_end body p) n

pub sizes_more : (before : Key) (k : ℕ) (rs : List Record) (r : Record) → sizes_from k before (rs ++ r ∷ []) ≡ sizes_from k before rs + size_behind (base_of (k + length rs) (key_behind before rs)) r
sizes_more before k [] r = let size : size_behind (base_of k before) r ≡ size_behind (base_of (k + 0) before) r = ap (λ b. size_behind b r) (first_base before k) in omega (arith, size)
sizes_more before k (s ∷ rs) r =
    let same : k + 1 + length rs ≡ k + suc (length rs) = omega arith in
    let ih = sizes_more s.key (k + 1) rs r in
    let size : size_behind (base_of (k + 1 + length rs) (key_behind s.key rs)) r ≡ size_behind (base_of (k + suc (length rs)) (key_behind s.key rs)) r = ap (λ j. size_behind (base_of j (key_behind s.key rs)) r) same in
    omega (arith, ih, size)

-- ---- the entry with an index
pub entry_there : (body : List ℕ) (p : ℕ) (before : Key) (k n i : ℕ) → IsLaid body p before k n → i < n → IsEntry (next_base body p before k i) body (place_behind body p i)
entry_there body p before k zero i w lt = absurd (omega (arith, lt))
entry_there body p before k (suc n) zero w lt = subst (λ b. IsEntry b body p) (first_base before k) w.0
entry_there body p before k (suc n) (suc i) w lt = subst (λ b. IsEntry b body (place_behind body (entry_end body p) i)) (moved_base body p before k i) (entry_there body (entry_end body p) (entry_at (base_of k before) body p).key (k + 1) n i w.1 (omega (arith, lt)))

pub record_there : (body : List ℕ) (p : ℕ) (before : Key) (k n i : ℕ) (u : Record) → i < n → slice_index_or (listed body p before k n) i u ≡ entry_at (next_base body p before k i) body (place_behind body p i)
record_there body p before k zero i u lt = absurd (omega (arith, lt))
record_there body p before k (suc n) zero u lt = ap (λ b. entry_at b body p) (first_base before k)
record_there body p before k (suc n) (suc i) u lt = record_there body (entry_end body p) (entry_at (base_of k before) body p).key (k + 1) n i u (omega (arith, lt)) ∙ ap (λ b. entry_at b body (place_behind body (entry_end body p) i)) (moved_base body p before k i)

-- all short
pub laid_short : (body : List ℕ) (p : ℕ) (before : Key) (k n : ℕ) → IsLaid body p before k n → HasShortParts (listed body p before k n)
laid_short body p before k zero w u h = absurd h
laid_short body p before k (suc n) w u (inl is) = subst IsShort is w.0.short
laid_short body p before k (suc n) w u (inr h) = laid_short body (entry_end body p) (entry_at (base_of k before) body p).key (k + 1) n w.1 u h
