-- A body of blocks, and one record more.
use Rattle.std.proofs.Common.{◌≡◌, ℕ, zero, suc, ◌+◌, ◌*◌, ◌≤◌, List, [], ◌∷◌, ◌++◌, refl, sym, ◌∙◌, ap, subst, length, take, arith, length-append}
use Rattle.std.proofs.lemmas.List.{length-take-le}
use Rattle.tab_key.specs.Encoding.{length_at, span_at, record_at}
use Rattle.tab_key.specs.Records.{Key, Record}
use Rattle.tab_table.specs.Blocks.{no_key, base_of, entry_at, entry_end, size_behind, IsEntry, place_behind, key_behind, block_records, AreBlocks}
use Rattle.tab_table.specs.Sizes.{encoded_size}
use Rattle.tab_table.specs.Counts.{HasCounts}
use Rattle.tab_table.specs.EntryBytes.{IsPut}
use Rattle.tab_table.proofs.Inside.{counts_inside}
use Rattle.tab_table.proofs.Laid.{still_listed, still_laid, still_place, length_listed, next_base, listed_more, laid_more, place_more, sizes_more}

pub key_last : (before : Key) (rs : List Record) (r : Record) → key_behind before (rs ++ r ∷ []) ≡ r.key
key_last before [] r = refl
key_last before (s ∷ rs) r = key_last s.key rs r

bytes_more : (rs : List Record) (r : Record) → encoded_size (rs ++ r ∷ []) ≡ encoded_size rs + size_behind (base_of (0 + length rs) (key_behind no_key rs)) r
unfolding encoded_size
bytes_more rs r = sizes_more no_key 0 rs r

shared_fits : (c : ℕ) (base rest u : List ℕ) → c ≤ length base → take c base ++ rest ≡ u → c ≤ length u
shared_fits c base rest u le is = omega (arith, ap length is, length-append (take c base) rest, length-take-le c base le)

module _ (old new : List ℕ) (n : ℕ) (last base : Key) (place : ℕ) (r : Record) (h : AreBlocks old n last) (is : base ≡ base_of n last) (here : place ≡ length old) (put : IsPut base old new place r) where
  abbrev before : List Record
  before = block_records old n

  same : block_records new n ≡ before
  same = still_listed old new put.front 0 no_key 0 n h.laid

  base_is : next_base new 0 no_key 0 n ≡ base
  base_is =
      let count : 0 + n ≡ n = omega arith in
      (λ i. base_of (count i) (key_behind no_key (same i))) ∙ ap (base_of n) h.key ∙ sym is

  place_is : place_behind new 0 n ≡ place
  place_is = still_place old new put.front 0 no_key 0 n h.laid ∙ h.ends ∙ sym here

  entry_here : IsEntry (next_base new 0 no_key 0 n) new (place_behind new 0 n)
  entry_here = subst (λ b. IsEntry b new (place_behind new 0 n)) (sym base_is) (subst (IsEntry base new) (sym place_is) put.entry)

  listed_now : block_records new (suc n) ≡ before ++ r ∷ []
  listed_now = listed_more new 0 no_key 0 n ∙ (λ i. same i ++ entry_at (base_is i) new (place_is i) ∷ []) ∙ ap (λ u. before ++ u ∷ []) put.reads

  size_now : length new ≡ encoded_size (block_records new (suc n))
  size_now =
      let count : 0 + length before ≡ n = omega (arith, length_listed old 0 no_key 0 n) in
      let base_here : base_of (0 + length before) (key_behind no_key before) ≡ base = (λ i. base_of (count i) (h.key i)) ∙ sym is in
      let more : encoded_size (before ++ r ∷ []) ≡ encoded_size before + size_behind base r = bytes_more before r ∙ ap (λ b. encoded_size before + size_behind b r) base_here in
      omega (arith, put.size, h.size, more, ap encoded_size listed_now)

  grown : AreBlocks new (suc n) r.key
  grown = record {
    laid = laid_more new 0 no_key 0 n (still_laid old new put.front 0 no_key 0 n h.laid) entry_here;
    ends = place_more new 0 n ∙ ap (entry_end new) place_is ∙ put.end;
    key = ap (key_behind no_key) listed_now ∙ key_last no_key before r;
    size = size_now;
  }

  -- with the count as the code has it
  pub blocks_more : AreBlocks new (n + 1) r.key
  blocks_more = let more : suc n ≡ n + 1 = omega arith in subst (λ m. AreBlocks new m r.key) more grown

  pub records_more : block_records new (n + 1) ≡ before ++ r ∷ []
  records_more = let more : n + 1 ≡ suc n = omega arith in ap (block_records new) more ∙ listed_now

  pub there_still : place_behind new 0 n ≡ length old
  there_still = place_is ∙ here

  -- what its entry says of its length
  pub counts_there : HasCounts new (length old) r
  counts_there =
      let entry : IsEntry base new (length old) = subst (IsEntry base new) here put.entry in
      let reads : entry_at base new (length old) ≡ r = ap (entry_at base new) (sym here) ∙ put.reads in
      let rest = record_at new (length old + 16) in
      record {
        head = counts_inside new (length old) entry.rest;
        row = shared_fits (length_at new (length old)) base.row rest.key.row r.key.row entry.row (ap (λ (v : Record). v.key.row) reads);
        family = shared_fits (length_at new (length old + 4)) base.family rest.key.family r.key.family entry.family (ap (λ (v : Record). v.key.family) reads);
        qualifier = shared_fits (length_at new (length old + 8)) base.qualifier rest.key.qualifier r.key.qualifier entry.qualifier (ap (λ (v : Record). v.key.qualifier) reads);
        label = shared_fits (length_at new (length old + 12)) base.label rest.key.label r.key.label entry.label (ap (λ (v : Record). v.key.label) reads);
      }

-- no record
pub no_blocks : AreBlocks [] 0 no_key
unfolding encoded_size
no_blocks = record { laid = tt; ends = refl; key = refl; size = refl }

-- ---- how many they are at most
entry_far : (body : List ℕ) (p : ℕ) → p + 57 ≤ entry_end body p
unfolding span_at
entry_far body p = omega arith

pub place_far : (body : List ℕ) (p n : ℕ) → p + 57 * n ≤ place_behind body p n
place_far body p zero = omega arith
place_far body p (suc n) = omega (arith, entry_far body p, place_far body (entry_end body p) n)
