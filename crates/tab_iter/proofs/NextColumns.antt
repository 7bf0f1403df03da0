-- The column that comes next after another, and the row.
use Rattle.std.proofs.Common.{◌≡◌, ℕ, List, [], ◌∷◌, ◌++◌, true, false, refl, sym, ◌∙◌, ap, arith}
use Rattle.std.specs.Prelude.{Option, Some, None}
use Rattle.std.specs.Cmp.{IsTotalOrder, then_total, on_total, nat_cmp_total, tied_itself}
use Rattle.std.specs.Cmp.Lexicographic.{nat_list_cmp_total}
use Rattle.std.specs.Ordering.{nat_cmp, is_gt, ordering_then, ordering_reverse, on, then_cmp}
use Rattle.std.specs.declared.cmp.Ordering.{Ordering}
use Rattle.std.specs.declared.cmp.Ordering.TheVariants.{Less, Equal, Greater}
use Rattle.std.proofs.lemmas.Bool.Decides.{nat_tests}
use mathlib.Core.Bool.{true≢false}
use Rattle.tab_key.specs.Bytes.{bytes_cmp}
use Rattle.tab_key.specs.Order.{column_cmp}
use Rattle.tab_key.specs.Records.{Key, Record}
use Rattle.tab_key.specs.Kept.{same_column}
use Rattle.tab_key.proofs.Order.{column_cmp_total}
use Rattle.tab_iter.specs.Columns.{is_of, next_column, next_of}
use Rattle.tab_iter.proofs.ColumnLaws.{equal_same, same_equal}

-- ---- byte strings
-- a byte string stands before the same with a zero byte behind
pub bytes_ahead : (l : List ℕ) → bytes_cmp l (l ++ 0 ∷ []) ≡ Less
bytes_ahead [] = refl
bytes_ahead (x ∷ l) = ap (λ o. ordering_then o (bytes_cmp l (l ++ 0 ∷ []))) (tied_itself nat_cmp_total x) ∙ bytes_ahead l

-- nothing stands before the empty one
pub none_under : (l : List ℕ) → bytes_cmp l [] ≡ Less → ⊥
none_under [] e = cc
none_under (x ∷ l) e = cc

pub nil_first : (l : List ℕ) → is_gt (bytes_cmp [] l) ≡ false
nil_first [] = refl
nil_first (x ∷ l) = refl

back_nat : (x y : ℕ) → nat_cmp y x ≡ ordering_reverse (nat_cmp x y)
back_nat x y = nat_cmp_total.antisymm y x

-- and none between them
pub bytes_between : (l m : List ℕ) → is_gt (bytes_cmp l m) ≡ false → bytes_cmp m (l ++ 0 ∷ []) ≡ Less → bytes_cmp l m ≡ Equal
bytes_between [] [] g e = refl
bytes_between [] (y ∷ m) g e = absurd (go (nat_cmp y 0) refl e)
  where
    go : (o : Ordering) → nat_cmp y 0 ≡ o → ordering_then o (bytes_cmp m []) ≡ Less → ⊥
    go Less s e = grind (arith, nat_tests)
    go Equal s e = none_under m e
    go Greater s e = cc
bytes_between (x ∷ l) [] g e = absurd (true≢false g)
bytes_between (x ∷ l) (y ∷ m) g e = go (nat_cmp x y) (back_nat x y) g e (bytes_between l m)
  where
    go : (o : Ordering) → nat_cmp y x ≡ ordering_reverse o → is_gt (ordering_then o (bytes_cmp l m)) ≡ false → ordering_then (nat_cmp y x) (bytes_cmp m (l ++ 0 ∷ [])) ≡ Less → (is_gt (bytes_cmp l m) ≡ false → bytes_cmp m (l ++ 0 ∷ []) ≡ Less → bytes_cmp l m ≡ Equal) → ordering_then o (bytes_cmp l m) ≡ Equal
    go Less s g e ih = let f = rw s at e in absurd cc
    go Equal s g e ih = ih g (rw s at e)
    go Greater s g e ih = absurd (true≢false g)

-- ---- columns
prefix_cmp : Key → Key → Ordering
prefix_cmp = then_cmp (then_cmp (on (λ k. k.row) bytes_cmp) (on (λ k. k.family) bytes_cmp)) (on (λ k. k.qualifier) bytes_cmp)

prefix_total : IsTotalOrder prefix_cmp
unfolding prefix_cmp
prefix_total = then_total (then_total (on_total (λ (k : Key). k.row) nat_list_cmp_total) (on_total (λ (k : Key). k.family) nat_list_cmp_total)) (on_total (λ (k : Key). k.qualifier) nat_list_cmp_total)

pub column_ahead : (a : Key) → column_cmp a (next_column a) ≡ Less
unfolding column_cmp prefix_cmp
column_ahead a = ap (λ o. ordering_then o (bytes_cmp a.label (a.label ++ 0 ∷ []))) (tied_itself prefix_total a) ∙ bytes_ahead a.label

pub column_between : (a u : Key) → is_gt (column_cmp a u) ≡ false → column_cmp u (next_column a) ≡ Less → same_column a u ≡ true
unfolding column_cmp prefix_cmp
column_between a u g e = equal_same a u (go (prefix_cmp a u) refl g e)
  where
    go : (o : Ordering) → prefix_cmp a u ≡ o → is_gt (ordering_then o (bytes_cmp a.label u.label)) ≡ false → ordering_then (prefix_cmp u a) (bytes_cmp u.label (a.label ++ 0 ∷ [])) ≡ Less → ordering_then o (bytes_cmp a.label u.label) ≡ Equal
    go Less s g e = let f = rw (prefix_total.antisymm u a ∙ ap ordering_reverse s) at e in absurd cc
    go Equal s g e = bytes_between a.label u.label g (rw (prefix_total.antisymm u a ∙ ap ordering_reverse s) at e)
    go Greater s g e = absurd (true≢false g)

-- the column next after the one that is remembered
pub next_ahead : (column : Option Key) (held : Key) → is_of column held ≡ true → column_cmp held (next_of column) ≡ Less
next_ahead None held s = absurd (true≢false (sym s))
next_ahead (Some c) held s = sym (column_cmp_total.congr c held (next_column c) (same_equal c held s)) ∙ column_ahead c

pub next_between : (column : Option Key) (held u : Key) → is_of column held ≡ true → is_gt (column_cmp held u) ≡ false → column_cmp u (next_of column) ≡ Less → is_of column u ≡ true
next_between None held u s g e = absurd (true≢false (sym s))
next_between (Some c) held u s g e = column_between c u (ap is_gt (column_cmp_total.congr c held u (same_equal c held s)) ∙ g) e
