-- Tables in the order of their sizes.
use Rattle.std.proofs.Common.{◌≡◌, ℕ, zero, suc, ◌+◌, ◌<◌, ◌≤◌, List, [], ◌∷◌, Bool, true, false, cond, refl, sym, ◌∙◌, ap, length, take, drop, get_or, arith, add-one, drop-cons}
use Rattle.std.specs.Prelude.{Option, Some, None, nat_lt, unwrap_or}
use Rattle.std.specs.List.{AllByRecursion, insert, prefix_len}
use Rattle.std.specs.List.Sorted.{IsNonDecreasing}
use Rattle.std.proofs.lemmas.Bool.Decides.{nat_tests}
use Rattle.tab_key.proofs.Each.{each_map}
use Rattle.tab_version.specs.Sources.{Sorted}
use Rattle.tab_compact.specs.Merges.{put_by_size, by_size, sizes_of, taken}

-- no table is smaller than this size
abbrev AllFrom : ℕ → List Sorted → Type 0
AllFrom n ts = AllByRecursion (λ (t : Sorted). n ≤ t.size) ts

-- no table is smaller than one before it
abbrev Rise : List Sorted → Type 0
Rise [] = Unit {0}
Rise (t ∷ ts) = AllFrom t.size ts × Rise ts

put_from : (n : ℕ) (t : Sorted) (ss : List Sorted) → n ≤ t.size → AllFrom n ss → AllFrom n (put_by_size t ss)
put_from n t [] le all = (le, tt)
put_from n t (s ∷ ss) le all = go (nat_lt s.size t.size) (put_from n t ss le all.1)
  where
    go : (v : Bool) → AllFrom n (put_by_size t ss) → AllFrom n (cond v (s ∷ put_by_size t ss) (t ∷ s ∷ ss))
    go true ih = (all.0, ih)
    go false ih = (le, all)

put_rises : (t : Sorted) (ss : List Sorted) → Rise ss → Rise (put_by_size t ss)
put_rises t [] up = (tt, tt)
put_rises t (s ∷ ss) up = go (nat_lt s.size t.size) refl (put_rises t ss up.1)
  where
    go : (v : Bool) → nat_lt s.size t.size ≡ v → Rise (put_by_size t ss) → Rise (cond v (s ∷ put_by_size t ss) (t ∷ s ∷ ss))
    go true e ih = (put_from s.size t ss (grind (arith, nat_tests)) up.0, ih)
    go false e ih =
        let le : t.size ≤ s.size = grind (arith, nat_tests) in
        ((le, each_map (λ (u : Sorted). s.size ≤ u.size) (λ (u : Sorted). t.size ≤ u.size) (λ u h. omega (arith, le, h)) ss up.0), up)

by_size_rises : (ts : List Sorted) → Rise (by_size ts)
by_size_rises [] = tt
by_size_rises (t ∷ ts) = put_rises t (by_size ts) (by_size_rises ts)

size_from : (n : ℕ) (ts : List Sorted) → AllFrom n ts → (k d : ℕ) → k < length (sizes_of ts) → n ≤ get_or (sizes_of ts) k d
size_from n [] all k d lt = absurd (omega (arith, lt))
size_from n (t ∷ ts) all zero d lt = all.0
size_from n (t ∷ ts) all (suc k) d lt = size_from n ts all.1 k d (omega (arith, lt))

sizes_rise : (ts : List Sorted) → Rise ts → IsNonDecreasing (sizes_of ts)
sizes_rise [] up i j d le lt = absurd (omega (arith, lt))
sizes_rise (t ∷ ts) up zero zero d le lt = omega arith
sizes_rise (t ∷ ts) up zero (suc j) d le lt = size_from t.size ts up.0 j d (omega (arith, lt))
sizes_rise (t ∷ ts) up (suc i) zero d le lt = absurd (omega (arith, le))
sizes_rise (t ∷ ts) up (suc i) (suc j) d le lt = sizes_rise ts up.1 i j d (omega (arith, le)) (omega (arith, lt))

-- the sizes of the sorted tables rise
pub by_size_rise : (ts : List Sorted) → IsNonDecreasing (sizes_of (by_size ts))
by_size_rise ts = sizes_rise (by_size ts) (by_size_rises ts)

-- a table is put behind the smaller ones
pub put_inserts : (t : Sorted) (ss : List Sorted) → insert ss (prefix_len (λ s. nat_lt s.size t.size) ss) t ≡ put_by_size t ss
put_inserts t [] = refl
put_inserts t (s ∷ ss) = go (nat_lt s.size t.size) (put_inserts t ss)
  where
    go : (v : Bool) → insert ss (prefix_len (λ s. nat_lt s.size t.size) ss) t ≡ put_by_size t ss → insert (s ∷ ss) (cond v (1 + prefix_len (λ s. nat_lt s.size t.size) ss) 0) t ≡ cond v (s ∷ put_by_size t ss) (t ∷ s ∷ ss)
    go true ih = let more : 1 + prefix_len (λ s. nat_lt s.size t.size) ss ≡ suc (prefix_len (λ s. nat_lt s.size t.size) ss) = omega arith in rw more (ap (λ l. s ∷ l) ih)
    go false ih = refl

-- one more table from the end
pub by_size_more : (ts : List Sorted) (i j : ℕ) (t : Sorted) → j ≡ i + 1 → i < length ts → t ≡ get_or ts i t → put_by_size t (by_size (drop j ts)) ≡ by_size (drop i ts)
by_size_more ts i j t e lt is =
    ap (λ k. put_by_size t (by_size (drop k ts))) (e ∙ add-one i)
    ∙ sym (ap by_size (drop-cons ts i t lt) ∙ ap (λ u. put_by_size u (by_size (drop (suc i) ts))) (sym is))

-- so many of them, or none
pub taken_front : (o : Option ℕ) (ts : List Sorted) → take (unwrap_or o 0) ts ≡ taken o ts
taken_front None ts = refl
taken_front (Some k) ts = refl
