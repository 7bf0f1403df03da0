-- Records that are sorted in two parts: those whose rows stand before a bound's, and the others.
use Rattle.std.proofs.Common.{◌≡◌, List, [], ◌∷◌, ◌++◌, Bool, true, false, cond, refl, sym, ◌∙◌, ap, subst, append_assoc, append-nil}
use Rattle.std.specs.Prelude.{⊤, filter, not, Result, Ok, Err, OnOk, OnErr}
use Rattle.std.specs.List.Sorted.{IsStrictlySortedBy}
use Rattle.std.specs.declared.cmp.Ordering.TheVariants.{Less}
use mathlib.Core.Bool.{true≢false}
use Rattle.tab_key.specs.Order.{record_cmp}
use Rattle.tab_key.specs.Records.{Record}
use Rattle.tab_key.specs.Sorted.{sorted, IsDistinct}
use Rattle.tab_key.proofs.Rising.{all_in, rising_sorted, distinct_filter}
use Rattle.tab_cells.proofs.Lists.{by_bool}
use Rattle.tab_iter.specs.Lists.{IsRising}
use Rattle.tab_iter.proofs.BagLaws.{sorted_filter}
use Rattle.tab_iter.proofs.ColumnLaws.{filter_none}
use Rattle.tab_mem.specs.Parting.{row_below, before, from_bound}
use Rattle.tab_mem.proofs.RowOrder.{rows_rise, then_lt}

-- what stands behind a record whose row isn't before the bound's has no such row either
none_before : (b x u : Record) → row_below x b ≡ false → record_cmp x u ≡ Less → row_below u b ≡ false
none_before b x u e less =
    by_bool (row_below u b)
    (λ t. absurd (true≢false (sym (then_lt x.key.row u.key.row b.key.row (rows_rise x u less) t) ∙ e)))
    (λ f. f)

rising_parted : (b : Record) (ws : List Record) → IsRising ws → ws ≡ filter (λ u. row_below u b) ws ++ filter (λ u. not (row_below u b)) ws
unfolding IsStrictlySortedBy
rising_parted b [] r = refl
rising_parted b (x ∷ xs) r = go (row_below x b) refl (rising_parted b xs r.1)
  where
    go : (v : Bool) → row_below x b ≡ v → xs ≡ filter (λ u. row_below u b) xs ++ filter (λ u. not (row_below u b)) xs
        → x ∷ xs ≡ cond v (x ∷ filter (λ u. row_below u b) xs) (filter (λ u. row_below u b) xs) ++ cond (not v) (x ∷ filter (λ u. not (row_below u b)) xs) (filter (λ u. not (row_below u b)) xs)
    go true e ih = ap (λ l. x ∷ l) ih
    go false e ih =
        let none : filter (λ u. row_below u b) xs ≡ [] = filter_none (λ u. row_below u b) xs (λ u h. none_before b x u e (all_in (λ z. record_cmp x z ≡ Less) xs r.0 u h)) in
        ap (λ l. x ∷ l) (ih ∙ ap (λ l. l ++ filter (λ u. not (row_below u b)) xs) none) ∙ ap (λ l. l ++ x ∷ filter (λ u. not (row_below u b)) xs) (sym none)

pub sorted_parted : (b : Record) (xs : List Record) → IsDistinct xs → sorted xs ≡ sorted (filter (λ u. row_below u b) xs) ++ sorted (filter (λ u. not (row_below u b)) xs)
sorted_parted b xs d =
    rising_parted b (sorted xs) (rising_sorted xs d)
    ∙ (λ i. sym (sorted_filter (λ u. row_below u b) xs d) i ++ sym (sorted_filter (λ u. not (row_below u b)) xs d) i)

-- those of a part put behind others that are sorted, and the rest left
pub part_taken : (b : Record) (rs now ws left : List Record) → IsDistinct ws → now ≡ rs ++ sorted (before b ws) → left ≡ from_bound b ws → now ++ sorted left ≡ rs ++ sorted ws
part_taken b rs now ws left d e f =
    ap (λ l. l ++ sorted left) e
    ∙ append_assoc rs (sorted (before b ws)) (sorted left)
    ∙ ap (λ l. rs ++ l) (ap (λ l. sorted (before b ws) ++ sorted l) f ∙ sym (sorted_parted b ws d))

pub rest_distinct : (b : Record) (ws left : List Record) → left ≡ from_bound b ws → IsDistinct ws → IsDistinct left
rest_distinct b ws left e d = subst IsDistinct (sym e) (distinct_filter (λ u. not (row_below u b)) ws d)

-- and at last the rest, unless that was refused
pub rest_taken : {E : Type 0} (r : Result ⊤ E) (rs now ws left : List Record) → OnOk r (now ≡ rs ++ sorted ws) → OnOk r (left ≡ []) → OnErr r (now ≡ rs) → OnErr r (left ≡ ws) → now ++ sorted left ≡ rs ++ sorted ws
rest_taken (Ok x) rs now ws left e f g h = ap (λ l. now ++ sorted l) f ∙ append-nil now ∙ e
rest_taken (Err x) rs now ws left e f g h = λ i. g i ++ sorted (h i)
