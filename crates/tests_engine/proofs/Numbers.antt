-- The numbers of the records that were written.
use Rattle.std.proofs.Common.{◌≡◌, ◌⊎◌, inl, inr, ℕ, ◌+◌, ◌<◌, ◌≤◌, List, ◌++◌, subst, arith}
use Rattle.std.specs.Prelude.{ℤ, Contains}
use Rattle.tab_key.specs.Records.{Record}
use Rattle.tab_key.specs.Sorted.{IsIn}
use Rattle.tab_key.proofs.Rising.{in_from, in_to, all_in}
use Rattle.tab_mutation.specs.Mutations.{Mutation}
use Rattle.tab_cells.specs.Written.{mutation_records}
use Rattle.tab_cells.proofs.Lists.{in_left, in_right, in_append}
use Rattle.tab_cells.proofs.Written.{records_below}

-- all records have numbers below the next, which a mutation gets that is written behind them
pub appended_below : (us new : List Record) (next seq : ℕ) (clock : ℤ) (m : Mutation) → new ≡ us ++ mutation_records seq clock m → next ≤ seq → ((u : Record) → Contains us u → u.seq < next) → (u : Record) → Contains new u → u.seq < seq + 1
appended_below us new next seq clock m e le below u k = go (in_append us (mutation_records seq clock m) u (in_from _ u (subst (λ l. Contains l u) e k)))
  where
    go : IsIn us u ⊎ IsIn (mutation_records seq clock m) u → u.seq < seq + 1
    go (inl h) = let lt : u.seq < next = below u (in_to us u h) in omega (arith, lt, le)
    go (inr h) = all_in (λ r. r.seq < seq + 1) (mutation_records seq clock m) (records_below seq m.row _) u h

-- so do those of a tablet, of which some are written and others frozen
pub written_below : (active new rest : List Record) (next seq : ℕ) (clock : ℤ) (m : Mutation) → new ≡ active ++ mutation_records seq clock m → next ≤ seq → ((u : Record) → Contains (active ++ rest) u → u.seq < next) → (u : Record) → Contains (new ++ rest) u → u.seq < seq + 1
written_below active new rest next seq clock m e le below u k = go (in_append new rest u (in_from _ u k))
  where
    go : IsIn new u ⊎ IsIn rest u → u.seq < seq + 1
    go (inl h) = appended_below active new next seq clock m e le (λ v j. below v (in_to (active ++ rest) v (in_left active rest v (in_from active v j)))) u (in_to new u h)
    go (inr h) = let lt : u.seq < next = below u (in_to (active ++ rest) u (in_right active rest u h)) in omega (arith, lt, le)
