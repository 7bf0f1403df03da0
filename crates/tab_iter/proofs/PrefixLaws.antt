-- The row prefixes of first records: what they say of records, and how they are found.
use Rattle.std.proofs.Common.{◌≡◌, ℕ, zero, suc, ◌<◌, ◌≤◌, ◌-◌, ◌^◌, List, [], ◌∷◌, ◌++◌, Option, Some, None, true, false, refl, sym, ◌∙◌, ap, subst, length, map, arith}
use Rattle.std.proofs.lemmas.List.{map-append}
use Rattle.std.specs.Ordering.{nat_cmp, is_lt}
use Rattle.std.specs.declared.cmp.Ordering.TheVariants.{Less, Greater}
use Rattle.std.proofs.lemmas.Bool.Decides.{nat_tests}
use Rattle.tab_key.specs.Records.{Record}
use Rattle.tab_key.specs.RowPrefix.{IsRowPrefix}
use Rattle.tab_iter.specs.Bags.{first_in, is_ahead}
use Rattle.tab_iter.specs.TopPrefix.{IsTopPrefix}
use Rattle.tab_iter.proofs.RowPrefix.{prefix_decides}

pub prefix_of_none : (n : ℕ) (first : Option Record) → n ≡ 2 ^ 128 - 1 → None ≡ first → IsTopPrefix n first
unfolding IsTopPrefix
prefix_of_none n None m e = m
prefix_of_none n (Some r) m e = let N : Option Record = None in let f : N ≡ Some r = e in absurd cc

pub prefix_of_some : (n : ℕ) (row : List ℕ) (r : Record) (first : Option Record) → row ≡ r.key.row → Some r ≡ first → IsRowPrefix n row → IsTopPrefix n first
unfolding IsTopPrefix
prefix_of_some n row r first same e p = subst (IsTopPrefix n) e (subst (IsRowPrefix n) same p)

less_from : (m n : ℕ) → nat_cmp m n ≡ Less → m < n
less_from m n e = grind (arith, nat_tests)

greater_from : (m n : ℕ) → nat_cmp m n ≡ Greater → n < m
greater_from m n e = grind (arith, nat_tests)

-- the source with the less number has a record, and it stands before the other's
pub prefix_ahead : (a b : Option Record) (m n : ℕ) → n < 2 ^ 128 → IsTopPrefix m a → IsTopPrefix n b → nat_cmp m n ≡ Less → true ≡ is_ahead a b
unfolding IsTopPrefix
prefix_ahead None b m n fits p q e = let lt : m < n = less_from m n e in absurd (omega (arith, fits, p, lt))
prefix_ahead (Some r) None m n fits p q e = refl
prefix_ahead (Some r) (Some s) m n fits p q e = ap is_lt (prefix_decides r s m n Less p q e (λ x. cc))

-- one with the greater number doesn't stand before the other
pub prefix_behind : (a b : Option Record) (m n : ℕ) → m < 2 ^ 128 → IsTopPrefix m a → IsTopPrefix n b → nat_cmp m n ≡ Greater → false ≡ is_ahead a b
unfolding IsTopPrefix
prefix_behind None b m n fits p q e = refl
prefix_behind (Some r) None m n fits p q e = let lt : n < m = greater_from m n e in absurd (omega (arith, fits, q, lt))
prefix_behind (Some r) (Some s) m n fits p q e = ap is_lt (prefix_decides r s m n Greater p q e (λ x. cc))

-- one source more
pub one_more : {S F : Type 0} (f : F → List Record) (g : S → List Record) (kept more : List F) (given : List S) (x : F) (s : S) → more ≡ kept ++ x ∷ [] → f x ≡ g s → map f kept ≡ map g given → map f more ≡ map g (given ++ s ∷ [])
one_more f g kept more given x s grown same e =
    ap (map f) grown ∙ map-append f kept (x ∷ []) ∙ (λ i. e i ++ same i ∷ []) ∙ sym (map-append g given (s ∷ []))

-- behind the last list there is no record
pub prefix_beyond : {S : Type 0} (rest : S → List Record) (ss : List S) (k n : ℕ) → n ≡ 2 ^ 128 - 1 → length ss ≤ k → IsTopPrefix n (first_in (map rest ss) k)
unfolding IsTopPrefix
prefix_beyond rest [] k n m beyond = m
prefix_beyond rest (s ∷ ss) zero n m beyond = absurd (omega (arith, beyond))
prefix_beyond rest (s ∷ ss) (suc k) n m beyond = prefix_beyond rest ss k n m (omega (arith, beyond))
