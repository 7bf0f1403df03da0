-- How a part compares with one that is sought, where its first bytes are those of another part.
use Rattle.std.proofs.Common.{◌≡◌, ◌≢◌, ℕ, zero, suc, ◌+◌, ◌<◌, ◌≤◌, List, [], ◌∷◌, ◌++◌, Bool, true, false, cond, refl, ◌∙◌, ap, length, take, drop, arith}
use Rattle.std.specs.Prelude.{◌==◌}
use Rattle.std.specs.Ordering.{nat_cmp, ordering_then}
use Rattle.std.specs.declared.cmp.Ordering.{Ordering}
use Rattle.std.specs.declared.cmp.Ordering.TheVariants.{Less, Equal, Greater}
use Rattle.std.proofs.lemmas.Bool.Decides.{nat_tests}
use Rattle.tab_key.specs.Bytes.{bytes_cmp}
use Rattle.tab_table.specs.Blocks.{shared}

equal_bytes : (x y : ℕ) → (x == y) ≡ true → nat_cmp x y ≡ Equal
equal_bytes x y e = grind (arith, nat_tests)

other_bytes : (x y : ℕ) → (x == y) ≡ false → nat_cmp x y ≢ Equal
other_bytes x y e f = grind (arith, nat_tests)

decided : (o a b : Ordering) → o ≢ Equal → ordering_then o a ≡ ordering_then o b
decided Less a b n = refl
decided Equal a b n = absurd (n refl)
decided Greater a b n = refl

-- what is kept agrees: the rest decides
pub rest_decides : (c : ℕ) (p t r : List ℕ) → c ≤ shared p t → bytes_cmp (take c p ++ r) t ≡ bytes_cmp r (drop c t)
rest_decides zero p t r le = refl
rest_decides (suc c) [] t r le = absurd (omega (arith, le))
rest_decides (suc c) (x ∷ p) [] r le = absurd (omega (arith, le))
rest_decides (suc c) (x ∷ p) (y ∷ t) r le = go (x == y) refl le (rest_decides c p t r)
  where
    go : (v : Bool) → (x == y) ≡ v → suc c ≤ cond v (suc (shared p t)) 0 → (c ≤ shared p t → bytes_cmp (take c p ++ r) t ≡ bytes_cmp r (drop c t)) → ordering_then (nat_cmp x y) (bytes_cmp (take c p ++ r) t) ≡ bytes_cmp r (drop c t)
    go true e l ih = ap (λ o. ordering_then o (bytes_cmp (take c p ++ r) t)) (equal_bytes x y e) ∙ ih (omega (arith, l))
    go false e l ih = absurd (omega (arith, l))

pub rest_agrees : (c : ℕ) (p t r : List ℕ) → c ≤ shared p t → shared (take c p ++ r) t ≡ c + shared r (drop c t)
rest_agrees zero p t r le = omega arith
rest_agrees (suc c) [] t r le = absurd (omega (arith, le))
rest_agrees (suc c) (x ∷ p) [] r le = absurd (omega (arith, le))
rest_agrees (suc c) (x ∷ p) (y ∷ t) r le = go (x == y) le (rest_agrees c p t r)
  where
    go : (v : Bool) → suc c ≤ cond v (suc (shared p t)) 0 → (c ≤ shared p t → shared (take c p ++ r) t ≡ c + shared r (drop c t)) → cond v (suc (shared (take c p ++ r) t)) 0 ≡ suc c + shared r (drop c t)
    go true l ih = omega (arith, ih (omega (arith, l)))
    go false l ih = absurd (omega (arith, l))

-- what is kept decides
pub kept_decides : (c : ℕ) (p t r : List ℕ) → shared p t < c → c ≤ length p → bytes_cmp (take c p ++ r) t ≡ bytes_cmp p t
kept_decides zero p t r lt le = absurd (omega (arith, lt))
kept_decides (suc c) [] t r lt le = absurd (omega (arith, le))
kept_decides (suc c) (x ∷ p) [] r lt le = refl
kept_decides (suc c) (x ∷ p) (y ∷ t) r lt le = go (x == y) refl lt (kept_decides c p t r)
  where
    go : (v : Bool) → (x == y) ≡ v → cond v (suc (shared p t)) 0 < suc c → (shared p t < c → c ≤ length p → bytes_cmp (take c p ++ r) t ≡ bytes_cmp p t) → ordering_then (nat_cmp x y) (bytes_cmp (take c p ++ r) t) ≡ ordering_then (nat_cmp x y) (bytes_cmp p t)
    go true e l ih = ap (ordering_then (nat_cmp x y)) (ih (omega (arith, l)) (omega (arith, le)))
    go false e l ih = decided (nat_cmp x y) (bytes_cmp (take c p ++ r) t) (bytes_cmp p t) (other_bytes x y e)

pub kept_agrees : (c : ℕ) (p t r : List ℕ) → shared p t < c → c ≤ length p → shared (take c p ++ r) t ≡ shared p t
kept_agrees zero p t r lt le = absurd (omega (arith, lt))
kept_agrees (suc c) [] t r lt le = absurd (omega (arith, le))
kept_agrees (suc c) (x ∷ p) [] r lt le = refl
kept_agrees (suc c) (x ∷ p) (y ∷ t) r lt le = go (x == y) lt (kept_agrees c p t r)
  where
    go : (v : Bool) → cond v (suc (shared p t)) 0 < suc c → (shared p t < c → c ≤ length p → shared (take c p ++ r) t ≡ shared p t) → cond v (suc (shared (take c p ++ r) t)) 0 ≡ cond v (suc (shared p t)) 0
    go true l ih = ap suc (ih (omega (arith, l)) (omega (arith, le)))
    go false l ih = refl
