-- The records of tablets, put one tablet behind the other, and counted.
use Rattle.std.proofs.Common.{◌≡◌, ◌≢◌, ℕ, ◌+◌, ◌<◌, ◌≤◌, ◌^◌, true, List, [], ◌∷◌, ◌++◌, length, take, drop, refl, sym, ap, ◌∙◌, subst, arith, append_assoc, take-append-drop, Err}
use Rattle.std.specs.Prelude.{filter}
use Rattle.std.specs.List.{AllByRecursion, flat_map}
use Rattle.std.proofs.lemmas.List.{take_all}
use Rattle.tab_key.specs.Records.{Record}
use Rattle.tab_key.specs.Sorted.{sorted}
use Rattle.tab_iter.proofs.BagLaws.{length_sorted}
use Rattle.tab_io.specs.Writing.{HasPut}
use Rattle.tab_io.specs.declared.writing.Output.{Ghosts}
use Rattle.tab_io.proofs.Putting.{put_more}
use Rattle.tab_io.proofs.Each.{flat_map-append}
use Rattle.tab_store.specs.ByRow.{LieApart, records_of_all}
use Rattle.tab_store.specs.Listing.{listed}
use Rattle.tab_store.specs.Places.{tablet_at}
use Rattle.tab_store.specs.Stores.{told_count}
use Rattle.tab_store.specs.Tablets.{Tablet, records_in}
use Rattle.tab_tablets.proofs.Listed.{lists_on, lists_in_order}
use Rattle.tab_image.specs.Spelling.{record_bytes}
use Rattle.tab_saving.specs.Saves.{Saves}
use Rattle.tab_saving.specs.declared.fault.SaveFault.{SaveFault}
use Rattle.tab_saving.proofs.Gathered.{all_join}
use Rattle.tab_saving.proofs.Texts.{saves_more, failed_longer, saves_same}

-- what is written of the records of these tablets
abbrev pub written_of : List Tablet → List ℕ
written_of ts = flat_map record_bytes (listed ts)

listed-append : (ts us : List Tablet) → listed (ts ++ us) ≡ listed ts ++ listed us
listed-append [] us = refl
listed-append (t ∷ ts) us = ap (λ rs. sorted (records_in t) ++ rs) (listed-append ts us) ∙ sym (append_assoc (sorted (records_in t)) (listed ts) (listed us))

-- those before, and the one at the place
one_more : (ts : List Tablet) (i : ℕ) → i < length ts → written_of (take (i + 1) ts) ≡ written_of (take i ts) ++ flat_map record_bytes (sorted (records_in (tablet_at ts i)))
one_more ts i lt = ap (flat_map record_bytes) (lists_on ts i lt) ∙ flat_map-append record_bytes (listed (take i ts)) (sorted (records_in (tablet_at ts i)))

-- and those behind it
all_round : (ts : List Tablet) (i : ℕ) → i < length ts → written_of (take i ts) ++ (flat_map record_bytes (sorted (records_in (tablet_at ts i))) ++ written_of (drop (i + 1) ts)) ≡ written_of ts
all_round ts i lt =
    sym (append_assoc (written_of (take i ts)) (flat_map record_bytes (sorted (records_in (tablet_at ts i)))) (written_of (drop (i + 1) ts)))
    ∙ ap (λ t. t ++ written_of (drop (i + 1) ts)) (sym (one_more ts i lt))
    ∙ sym (flat_map-append record_bytes (listed (take (i + 1) ts)) (listed (drop (i + 1) ts)))
    ∙ ap (flat_map record_bytes) (sym (listed-append (take (i + 1) ts) (drop (i + 1) ts)) ∙ ap listed (take-append-drop (i + 1) ts))

module _ {W : Type 0} (g : Ghosts W) (ts : List Tablet) where
  pub tablet_more : (a b c : W) (i : ℕ) → i < length ts → HasPut g a b (written_of (take i ts)) → HasPut g b c (flat_map record_bytes (sorted (records_in (tablet_at ts i)))) → HasPut g a c (written_of (take (i + 1) ts))
  tablet_more a b c i lt p q = subst (λ t. HasPut g a c t) (sym (one_more ts i lt)) (put_more p q)

  pub tablet_failed : (a b c : W) (i : ℕ) (e : SaveFault) → LieApart ts → i < length ts → HasPut g a b (written_of (take i ts)) → Saves g b c (flat_map record_bytes (sorted (records_in (tablet_at ts i)))) (Err e) → Saves g a c (flat_map record_bytes (sorted (records_of_all ts))) (Err e)
  tablet_failed a b c i e apart lt p q =
      let tablet : List ℕ = flat_map record_bytes (sorted (records_in (tablet_at ts i))) in
      saves_same g a c (written_of (take i ts) ++ (tablet ++ written_of (drop (i + 1) ts))) (flat_map record_bytes (sorted (records_of_all ts))) (Err e) (all_round ts i lt ∙ ap (flat_map record_bytes) (lists_in_order ts apart))
      (saves_more g a b c (written_of (take i ts)) (tablet ++ written_of (drop (i + 1) ts)) (Err e) p (failed_longer g b c tablet (written_of (drop (i + 1) ts)) e q))

  -- all of them, once the count of places is reached; then all records are written, in their order
  pub tablets_done : (a b : W) (i : ℕ) → LieApart ts → length ts ≤ i → HasPut g a b (written_of (take i ts)) → HasPut g a b (flat_map record_bytes (sorted (records_of_all ts)))
  tablets_done a b i apart all p = subst (λ t. HasPut g a b t) (ap written_of (take_all i ts all) ∙ ap (flat_map record_bytes) (lists_in_order ts apart)) p

-- ---- what holds of each record
pub all_more : (P : Record → Type 0) (ts : List Tablet) (i : ℕ) → i < length ts → AllByRecursion P (listed (take i ts)) → AllByRecursion P (sorted (records_in (tablet_at ts i))) → AllByRecursion P (listed (take (i + 1) ts))
all_more P ts i lt a b = subst (AllByRecursion P) (sym (lists_on ts i lt)) (all_join P (listed (take i ts)) (sorted (records_in (tablet_at ts i))) a b)

pub all_done : (P : Record → Type 0) (ts : List Tablet) (i : ℕ) → LieApart ts → length ts ≤ i → AllByRecursion P (listed (take i ts)) → AllByRecursion P (sorted (records_of_all ts))
all_done P ts i apart all a = subst (AllByRecursion P) (ap listed (take_all i ts all) ∙ lists_in_order ts apart) a

-- ---- how many there are
all_pass : (us : List Record) → filter (λ (u : Record). true) us ≡ us
all_pass [] = refl
all_pass (u ∷ us) = ap (λ vs. u ∷ vs) (all_pass us)

pub as_many : (us : List Record) → length (sorted us) ≡ length us
as_many us = sym (ap length (all_pass (sorted us))) ∙ length_sorted (λ u. true) us ∙ ap length (all_pass us)

-- a count that isn't the greatest is told as it is
pub counted : (n count : ℕ) → count ≡ told_count n → count ≢ 18446744073709551615 → count ≡ n
counted n count is other = omega (arith, is, other)

-- so there are fewer than 2^64 records
pub few_counted : (us : List Record) (count : ℕ) → count ≡ told_count (length us) → count ≢ 18446744073709551615 → length (sorted us) < 2 ^ 64
few_counted us count is other = let many = as_many us in omega (arith, is, other, many)

-- fewer than 2^64 are told as they are
pub all_told : (n i : ℕ) → n < 2 ^ 64 → told_count n ≤ i → n ≤ i
all_told n i few all = omega (arith, few, all)

-- those that are told are there
pub within : (n i : ℕ) → i < told_count n → i < n
within n i lt = omega (arith, lt)
