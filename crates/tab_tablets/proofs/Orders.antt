-- The order of rows, as tests of it tell.
use Rattle.std.proofs.Common.{◌≡◌, List, ℕ, true, false, refl, sym, ◌∙◌, ap, subst}
use Rattle.std.specs.Prelude.{bytes_eq}
use Rattle.std.specs.BTreeMap.Comparable.{le_lt_trans}
use Rattle.std.specs.Cmp.{tied_itself}
use Rattle.std.specs.Cmp.Lexicographic.{nat_list_cmp_total, bytes_decides}
use Rattle.std.specs.Ordering.{is_le, is_gt, ordering_reverse}
use Rattle.std.specs.declared.cmp.Ordering.{Ordering}
use Rattle.std.specs.declared.cmp.Ordering.TheVariants.{Less, Equal, Greater}
use mathlib.Core.Bool.{true≢false}
use Rattle.tab_key.specs.Bytes.{bytes_cmp}
use Rattle.tab_key.proofs.Ties.{bytes_tied}
use Rattle.tab_cells.proofs.Lists.{by_bool}

abbrev pub UpTo : List ℕ → List ℕ → Type 0
UpTo a b = is_le (bytes_cmp a b) ≡ true

abbrev pub Below : List ℕ → List ℕ → Type 0
Below a b = bytes_cmp a b ≡ Less

pub up_to_itself : (a : List ℕ) → UpTo a a
up_to_itself a = ap is_le (tied_itself nat_list_cmp_total a)

pub below_up_to : (a b : List ℕ) → Below a b → UpTo a b
below_up_to a b e = ap is_le e

pub up_to_below : (a b c : List ℕ) → UpTo a b → Below b c → Below a c
up_to_below a b c p q = le_lt_trans nat_list_cmp_total a b c p q

pub below_up : (a b c : List ℕ) → Below a b → UpTo b c → Below a c
below_up a b c p q = go (bytes_cmp b c) refl
  where
    go : (o : Ordering) → bytes_cmp b c ≡ o → Below a c
    go Less e = nat_list_cmp_total.trans a b c p e
    go Equal e = subst (Below a) (bytes_tied b c e) p
    go Greater e = absurd (true≢false (sym q ∙ ap is_le e))

pub up_to_both : (a b c : List ℕ) → UpTo a b → UpTo b c → UpTo a c
up_to_both a b c p q = go (bytes_cmp a b) refl
  where
    go : (o : Ordering) → bytes_cmp a b ≡ o → UpTo a c
    go Less e = below_up_to a c (below_up a b c e q)
    go Equal e = subst (λ x. UpTo x c) (sym (bytes_tied a b e)) q
    go Greater e = absurd (true≢false (sym p ∙ ap is_le e))

not_itself_below : (a : List ℕ) → Below a a → UpTo a a → true ≡ false
not_itself_below a p q = let l : Less ≡ Equal = sym p ∙ tied_itself nat_list_cmp_total a in cc

-- what isn't up to is above
pub above : (a b : List ℕ) → is_le (bytes_cmp a b) ≡ false → Below b a
above a b e = nat_list_cmp_total.antisymm b a ∙ go (bytes_cmp a b) e
  where
    go : (o : Ordering) → is_le o ≡ false → ordering_reverse o ≡ Less
    go Less e = absurd (true≢false e)
    go Equal e = absurd (true≢false e)
    go Greater e = refl

pub not_above : (a b : List ℕ) → Below a b → is_le (bytes_cmp b a) ≡ false
not_above a b e = by_bool (is_le (bytes_cmp b a)) (λ t. absurd (true≢false (not_itself_below a (below_up a b a e t) (up_to_itself a)))) (λ f. f)

-- what is above isn't up to
pub not_up_to : (a b : List ℕ) → is_gt (bytes_cmp a b) ≡ true → is_le (bytes_cmp a b) ≡ false
not_up_to a b e = go (bytes_cmp a b) e
  where
    go : (o : Ordering) → is_gt o ≡ true → is_le o ≡ false
    go Less e = absurd (true≢false (sym e))
    go Equal e = absurd (true≢false (sym e))
    go Greater e = refl

-- strictly below is another
pub below_other : (a b : List ℕ) → Below a b → bytes_eq a b ≡ false
below_other a b e = by_bool (bytes_eq a b) (λ t. let s : a ≡ b = (bytes_decides a b).0 t in absurd (true≢false (not_itself_below a (subst (Below a) (sym s) e) (up_to_itself a)))) (λ f. f)

-- above is another too
pub above_other : (a b : List ℕ) → is_le (bytes_cmp a b) ≡ false → bytes_eq a b ≡ false
above_other a b e = by_bool (bytes_eq a b) (λ t. let s : a ≡ b = (bytes_decides a b).0 t in absurd (true≢false (sym (subst (UpTo a) s (up_to_itself a)) ∙ e))) (λ f. f)

-- up to, and another, is strictly below
pub up_to_other : (a b : List ℕ) → UpTo a b → bytes_eq a b ≡ false → Below a b
up_to_other a b p n = go (bytes_cmp a b) refl
  where
    go : (o : Ordering) → bytes_cmp a b ≡ o → Below a b
    go Less e = e
    go Equal e = absurd (true≢false (sym ((bytes_decides a b).1 (bytes_tied a b e)) ∙ n))
    go Greater e = absurd (true≢false (sym p ∙ ap is_le e))
