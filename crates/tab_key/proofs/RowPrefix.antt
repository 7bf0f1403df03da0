-- The prefixes of two rows decide which one comes first, where they differ.
use Rattle.std.proofs.Common.{◌≡◌, ◌≢◌, ℕ, zero, suc, List, [], ◌∷◌, ◌++◌, refl, sym, ◌∙◌, ap, length, take, drop, arith, get_or, ◌<◌}
use Rattle.std.specs.Prelude.{replicate}
use Rattle.std.specs.Ordering.{nat_cmp, ordering_reverse, ordering_then}
use Rattle.std.specs.Cmp.{nat_cmp_total}
use Rattle.std.specs.Cmp.Lexicographic.{nat_list_cmp_total}
use Rattle.std.specs.declared.cmp.Ordering.{Ordering}
use Rattle.std.specs.declared.cmp.Ordering.TheVariants.{Less, Equal, Greater}
use Rattle.std.proofs.lemmas.Bool.Decides.{nat_tests}
use Rattle.std.specs.List.{AllByRecursion}
use Rattle.tab_key.specs.Bytes.{bytes_cmp}
use Rattle.tab_key.proofs.BigEndian.{less_sixteen}
use Rattle.tab_key.specs.RowPrefix.{padded, IsRowPrefix}

zeros : (n : ℕ) → replicate n 0 ≡ padded n []
unfolding padded
zeros zero = refl
zeros (suc n) = ap (λ (xs : List ℕ). 0 ∷ xs) (zeros n)

-- as much of the row as fits, over zeros
pub padded_take : (n : ℕ) (row : List ℕ) → take n row ++ drop (length (take n row)) (replicate n 0) ≡ padded n row
unfolding padded
padded_take zero row = refl
padded_take (suc n) [] = ap (λ (xs : List ℕ). 0 ∷ xs) (zeros n)
padded_take (suc n) (x ∷ xs) = ap (λ (ys : List ℕ). x ∷ ys) (padded_take n xs)

not_below_zero : (x : ℕ) → nat_cmp x 0 ≡ Less → ⊥
not_below_zero x e = grind (arith, nat_tests)

not_below_none : (xs : List ℕ) → bytes_cmp xs [] ≡ Less → ⊥
not_below_none [] e = cc
not_below_none (x ∷ xs) e = cc

less_rows : (n : ℕ) (a b : List ℕ) → bytes_cmp (padded n a) (padded n b) ≡ Less → bytes_cmp a b ≡ Less
unfolding padded
less_rows zero a b e = absurd cc
less_rows (suc n) [] [] e = less_rows n [] [] e
less_rows (suc n) [] (y ∷ ys) e = refl
less_rows (suc n) (x ∷ xs) [] e = absurd (go (nat_cmp x 0) refl e (less_rows n xs []))
  where
    go : (o : Ordering) → nat_cmp x 0 ≡ o → ordering_then o (bytes_cmp (padded n xs) (padded n [])) ≡ Less → (bytes_cmp (padded n xs) (padded n []) ≡ Less → bytes_cmp xs [] ≡ Less) → ⊥
    go Less t l ih = not_below_zero x t
    go Equal t l ih = not_below_none xs (ih l)
    go Greater t l ih = cc
less_rows (suc n) (x ∷ xs) (y ∷ ys) e = go (nat_cmp x y) e (less_rows n xs ys)
  where
    go : (o : Ordering) → ordering_then o (bytes_cmp (padded n xs) (padded n ys)) ≡ Less → (bytes_cmp (padded n xs) (padded n ys) ≡ Less → bytes_cmp xs ys ≡ Less) → ordering_then o (bytes_cmp xs ys) ≡ Less
    go Less l ih = refl
    go Equal l ih = ih l
    go Greater l ih = l

length_padded : (n : ℕ) (row : List ℕ) → length (padded n row) ≡ n
unfolding padded
length_padded zero row = refl
length_padded (suc n) [] = ap suc (length_padded n [])
length_padded (suc n) (x ∷ xs) = ap suc (length_padded n xs)

pub bytes_padded : (n : ℕ) (row : List ℕ) → ((i : ℕ) → get_or row i 0 < 256) → AllByRecursion (λ b. b < 256) (padded n row)
unfolding padded
bytes_padded zero row h = tt
bytes_padded (suc n) [] h = (omega arith, bytes_padded n [] h)
bytes_padded (suc n) (x ∷ xs) h = (h 0, bytes_padded n xs (λ i. h (suc i)))

less_from : (m n : ℕ) → nat_cmp m n ≡ Less → m < n
less_from m n e = grind (arith, nat_tests)

less_prefixes : (a b : List ℕ) (m n : ℕ) → IsRowPrefix m a → IsRowPrefix n b → nat_cmp m n ≡ Less → bytes_cmp a b ≡ Less
less_prefixes a b m n p q e =
    less_rows 16 a b (less_sixteen (padded 16 a) (padded 16 b) (length_padded 16 a) (length_padded 16 b) q.bytes (omega (arith, less_from m n e, p.value, q.value)))

-- the order of two numbers is that of the rows, unless they are the same number
pub prefix_orders : (a b : List ℕ) (m n : ℕ) (o : Ordering) → IsRowPrefix m a → IsRowPrefix n b → nat_cmp m n ≡ o → o ≢ Equal → o ≡ bytes_cmp a b
prefix_orders a b m n Less p q e other = sym (less_prefixes a b m n p q e)
prefix_orders a b m n Equal p q e other = absurd (other refl)
prefix_orders a b m n Greater p q e other =
    let back : nat_cmp n m ≡ Less = nat_cmp_total.antisymm n m ∙ ap ordering_reverse e in
    sym (nat_list_cmp_total.antisymm a b ∙ ap ordering_reverse (less_prefixes b a n m q p back))
