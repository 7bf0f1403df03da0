-- Rows of records in order, and the ends of a range.
use Rattle.std.proofs.Common.{◌≡◌, List, ℕ, Bool, true, false, not, refl, sym, ◌∙◌, ap}
use Rattle.std.specs.Ordering.{is_lt, is_le, is_gt, ordering_reverse}
use Rattle.std.specs.Cmp.Lexicographic.{nat_list_cmp_total}
use Rattle.std.specs.declared.cmp.Ordering.{Ordering}
use Rattle.std.specs.declared.cmp.Ordering.TheVariants.{Less, Equal, Greater}
use Rattle.std.proofs.lemmas.Cmp.{upto}
use mathlib.Core.Bool.{true≢false}
use Rattle.tab_key.specs.Bytes.{bytes_cmp}
use Rattle.tab_key.specs.Records.{Record}
use Rattle.tab_key.specs.Order.{column_cmp, key_cmp, place_cmp, record_cmp}
use Rattle.tab_key.specs.Ranges.{is_above, is_below}
use Rattle.tab_key.specs.declared.range.Bound.{Bound}
use Rattle.tab_key.specs.declared.range.Bound.TheVariants.{Unbounded, Inclusive, Exclusive}
use Rattle.tab_cells.proofs.Lists.{by_bool}

pub twice : (v : Bool) → v ≡ not (not v)
twice true = refl
twice false = refl

-- the first of two rows isn't above the second
abbrev pub IsUpto : List ℕ → List ℕ → Type 0
IsUpto a b = is_gt (bytes_cmp a b) ≡ false

-- in order rows don't fall
pub rows_rise : (x y : Record) → record_cmp x y ≡ Less → IsUpto x.key.row y.key.row
unfolding place_cmp key_cmp column_cmp
rows_rise x y e = go (bytes_cmp x.key.row y.key.row) refl
  where
    go : (o : Ordering) → bytes_cmp x.key.row y.key.row ≡ o → is_gt (bytes_cmp x.key.row y.key.row) ≡ false
    go Less s = ap is_gt s
    go Equal s = ap is_gt s
    go Greater s = let f = rw s at e in cc

gt_reversed : (o : Ordering) → is_lt (ordering_reverse o) ≡ is_gt o
gt_reversed Less = refl
gt_reversed Equal = refl
gt_reversed Greater = refl

turned : (a b : List ℕ) → is_lt (bytes_cmp a b) ≡ is_gt (bytes_cmp b a)
turned a b = ap is_lt (nat_list_cmp_total.antisymm a b) ∙ gt_reversed (bytes_cmp b a)

le_upto : (o : Ordering) → is_le o ≡ true → is_gt o ≡ false
le_upto Less e = refl
le_upto Equal e = refl
le_upto Greater e = absurd (true≢false (sym e))

upto_le : (o : Ordering) → is_gt o ≡ false → is_le o ≡ true
upto_le Less e = refl
upto_le Equal e = refl
upto_le Greater e = absurd (true≢false e)

le_then : (low a b : List ℕ) → is_le (bytes_cmp low a) ≡ true → IsUpto a b → is_le (bytes_cmp low b) ≡ true
le_then low a b e u = upto_le _ (upto nat_list_cmp_total low a b (le_upto _ e) u)

then_le : (a b high : List ℕ) → IsUpto a b → is_le (bytes_cmp b high) ≡ true → is_le (bytes_cmp a high) ≡ true
then_le a b high u e = upto_le _ (upto nat_list_cmp_total a b high u (le_upto _ e))

lt_then : (low a b : List ℕ) → is_lt (bytes_cmp low a) ≡ true → IsUpto a b → is_lt (bytes_cmp low b) ≡ true
lt_then low a b e u = by_bool (is_lt (bytes_cmp low b)) (λ t. t) (λ f. absurd (true≢false (sym e ∙ turned low a ∙ upto nat_list_cmp_total a b low u (sym (turned low b) ∙ f))))

pub then_lt : (a b high : List ℕ) → IsUpto a b → is_lt (bytes_cmp b high) ≡ true → is_lt (bytes_cmp a high) ≡ true
then_lt a b high u e = by_bool (is_lt (bytes_cmp a high)) (λ t. t) (λ f. absurd (true≢false (sym e ∙ turned b high ∙ upto nat_list_cmp_total high a b (sym (turned a high) ∙ f) u)))

pub above_more : (low : Bound) (a b : List ℕ) → IsUpto a b → is_above low a ≡ true → is_above low b ≡ true
above_more Unbounded a b u e = refl
above_more (Inclusive low) a b u e = le_then low a b e u
above_more (Exclusive low) a b u e = lt_then low a b e u

pub below_less : (high : Bound) (a b : List ℕ) → IsUpto a b → is_below high b ≡ true → is_below high a ≡ true
below_less Unbounded a b u e = refl
below_less (Inclusive high) a b u e = then_le a b high u e
below_less (Exclusive high) a b u e = then_lt a b high u e
