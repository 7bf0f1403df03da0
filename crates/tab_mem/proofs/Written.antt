-- Timestamps of the records that a write adds.
use Rattle.std.proofs.Common.{◌≡◌, ◌⊎◌, ℕ, ◌+◌, ◌<◌, ◌≤◌, List, ◌∷◌, ◌++◌, sym, reverse, map, take, arith, get_or, inl, inr, subst, length}
use Rattle.std.specs.Prelude.{ℤ, true, int_le}
use Rattle.tab_key.specs.Records.{Record}
use Rattle.tab_key.specs.Sorted.{IsIn}
use Rattle.tab_mutation.specs.Mutations.{Update}
use Rattle.tab_cells.specs.Written.{timed, record_of, records_of}
use Rattle.tab_cells.proofs.Lists.{in_append}
use Rattle.tab_cells.proofs.Written.{records_more}
use Rattle.tab_iter.specs.Lists.{latest, HasI64Timestamps}

-- ---- timestamps
pub timestamps_first : (r : Record) (rs : List Record) → int_le r.key.timestamp latest ≡ true → HasI64Timestamps rs → HasI64Timestamps (r ∷ rs)
timestamps_first r rs e t u (inl is) = subst (λ v. int_le v.key.timestamp latest ≡ true) is e
timestamps_first r rs e t u (inr h) = t u h

-- the records of the first i + 1 updates have i64 timestamps, if those of the first i have them and the last one has
pub timestamps_more : (seq : ℕ) (row : List ℕ) (clock : ℤ) (us : List Update) (i : ℕ) (u : Update) → i < length us → u ≡ get_or us i u → int_le (timed clock u).timestamp latest ≡ true
    → HasI64Timestamps (records_of seq row (reverse (map (timed clock) (take i us)))) → HasI64Timestamps (records_of seq row (reverse (map (timed clock) (take (i + 1) us))))
timestamps_more seq row clock us i u lt is e t = subst HasI64Timestamps (sym (records_more seq row clock us i u lt is)) (timestamps_first (record_of seq row i (timed clock u)) _ e t)

pub timestamps_none : (seq : ℕ) (row : List ℕ) (clock : ℤ) (us : List Update) (i : ℕ) → i ≤ 0 → HasI64Timestamps (records_of seq row (reverse (map (timed clock) (take i us))))
unfolding records_of
timestamps_none seq row clock us i le u h = let none : i ≡ 0 = omega (arith, le) in absurd (subst (λ j. IsIn (records_of seq row (reverse (map (timed clock) (take j us)))) u) none h)

pub timestamps_both : (xs ys : List Record) → HasI64Timestamps xs → HasI64Timestamps ys → HasI64Timestamps (xs ++ ys)
timestamps_both xs ys a b u h = go (in_append xs ys u h)
  where
    go : IsIn xs u ⊎ IsIn ys u → int_le u.key.timestamp latest ≡ true
    go (inl k) = a u k
    go (inr k) = b u k
