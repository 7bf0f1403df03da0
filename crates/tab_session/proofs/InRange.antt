-- Of a rising list the records with a row in a range stand together, and their first key is where the range begins.
use Rattle.std.proofs.Common.{◌≡◌, inl, inr, ℕ, List, [], ◌∷◌, ◌++◌, Bool, true, false, not, refl, sym, ◌∙◌, ap, map, arith, append_assoc, append-nil}
use Rattle.std.specs.Prelude.{ℤ, Some, None, filter, int_le}
use Rattle.std.specs.Cmp.Lexicographic.{nat_list_cmp_total}
use Rattle.std.specs.Ordering.{int_cmp, is_lt, is_le, is_gt, ordering_then, ordering_reverse}
use Rattle.std.specs.declared.cmp.Ordering.{Ordering}
use Rattle.std.specs.declared.cmp.Ordering.TheVariants.{Less, Equal, Greater}
use Rattle.std.proofs.lemmas.Int.{ints}
use mathlib.Core.Bool.{true≢false}
use Rattle.tab_key.specs.Bytes.{bytes_cmp}
use Rattle.tab_key.specs.Order.{column_cmp, key_cmp}
use Rattle.tab_key.specs.Ranges.{is_above, is_below}
use Rattle.tab_key.specs.Records.{Key, Record, Cell, cell_of}
use Rattle.tab_key.specs.Sorted.{IsIn}
use Rattle.tab_key.specs.declared.range.Bound.{Bound}
use Rattle.tab_key.specs.declared.range.Bound.TheVariants.{Unbounded, Inclusive, Exclusive}
use Rattle.tab_key.specs.declared.range.Bounds.{Bounds}
use Rattle.tab_key.proofs.Rising.{is_less}
use Rattle.tab_cells.specs.SessionState.{cells_within}
use Rattle.tab_cells.proofs.Lists.{by_bool}
use Rattle.tab_iter.specs.Lists.{first_of, tail, from_key, IsRising, latest, HasI64Timestamps}
use Rattle.tab_iter.specs.NamedColumns.{row_start}
use Rattle.tab_iter.proofs.ListLaws.{first_less, later_rises}
use Rattle.tab_iter.proofs.NextColumns.{bytes_ahead, bytes_between}
use Rattle.tab_mem.proofs.RowOrder.{rows_rise, above_more, below_less}
use Rattle.tab_session.specs.LowEnds.{from_low}

-- ---- the first key of a row
-- what follows decides nothing where it isn't before
then_not : (a b : Ordering) → is_lt b ≡ false → is_lt (ordering_then a b) ≡ is_lt a
then_not Less b e = refl
then_not Equal b e = e
then_not Greater b e = refl

none_before : (l : List ℕ) → is_lt (bytes_cmp l []) ≡ false
none_before [] = refl
none_before (x ∷ l) = refl

not_later : (t : ℤ) → int_le t latest ≡ true → is_lt (int_cmp latest t) ≡ false
not_later t e = grind (arith, ints)

-- a key stands before the first one of a row just where its own row does
starts_row : (row : List ℕ) (k : Key) → int_le k.timestamp latest ≡ true → is_lt (key_cmp k (row_start row)) ≡ is_lt (bytes_cmp k.row row)
unfolding key_cmp column_cmp
starts_row row k e =
    then_not _ (int_cmp latest k.timestamp) (not_later k.timestamp e)
    ∙ then_not _ (bytes_cmp k.label []) (none_before k.label)
    ∙ then_not _ (bytes_cmp k.qualifier []) (none_before k.qualifier)
    ∙ then_not (bytes_cmp k.row row) (bytes_cmp k.family []) (none_before k.family)

-- no record stands before the first key of the first row
pub from_least : (w : List Record) → HasI64Timestamps w → from_key (row_start []) w ≡ w
from_least [] i64 = refl
from_least (u ∷ us) i64 = rw (starts_row [] u.key (i64 u (inl refl)) ∙ none_before u.key.row) refl

-- ---- a low end
turned_le : (o : Ordering) → is_lt (ordering_reverse o) ≡ not (is_le o)
turned_le Less = refl
turned_le Equal = refl
turned_le Greater = refl

under_row : (row m : List ℕ) → is_lt (bytes_cmp m row) ≡ not (is_le (bytes_cmp row m))
under_row row m = ap is_lt (nat_list_cmp_total.antisymm m row) ∙ turned_le (bytes_cmp row m)

-- up to a row is what stands before the next one
under_next : (row m : List ℕ) → is_lt (bytes_cmp m (row ++ 0 ∷ [])) ≡ not (is_lt (bytes_cmp row m))
under_next row m = go (bytes_cmp row m) refl
  where
    go : (o : Ordering) → bytes_cmp row m ≡ o → is_lt (bytes_cmp m (row ++ 0 ∷ [])) ≡ not (is_lt o)
    go Less s = by_bool (is_lt (bytes_cmp m (row ++ 0 ∷ []))) (λ t. absurd (let tied : Less ≡ Equal = sym s ∙ bytes_between row m (ap is_gt s) (is_less _ t) in cc)) (λ f. f)
    go Equal s = ap is_lt (sym (nat_list_cmp_total.congr row m (row ++ 0 ∷ []) s) ∙ bytes_ahead row)
    go Greater s = ap is_lt (nat_list_cmp_total.trans m row (row ++ 0 ∷ []) (nat_list_cmp_total.antisymm m row ∙ ap ordering_reverse s) (bytes_ahead row))

-- ---- what passes in a rising list
all_pass : (p : Record → Bool) (us : List Record) → ((u : Record) → IsIn us u → p u ≡ true) → filter p us ≡ us
all_pass p [] f = refl
all_pass p (u ∷ us) f = rw (f u (inl refl)) (ap (λ l. u ∷ l) (all_pass p us (λ v h. f v (inr h))))

none_pass : (p : Record → Bool) (us : List Record) → ((u : Record) → IsIn us u → p u ≡ false) → filter p us ≡ []
none_pass p [] f = refl
none_pass p (u ∷ us) f = rw (f u (inl refl)) (none_pass p us (λ v h. f v (inr h)))

-- from a key on that has all rows below a low end before it
from_its_key : (k : Key) (low : Bound) (w : List Record) → IsRising w → ((u : Record) → IsIn w u → is_lt (key_cmp u.key k) ≡ not (is_above low u.key.row)) → from_key k w ≡ filter (λ u. is_above low u.key.row) w
from_its_key k low [] up f = refl
from_its_key k low (u ∷ us) up f = by_bool (is_above low u.key.row)
    (λ e. rw (f u (inl refl), e) (ap (λ l. u ∷ l) (sym (all_pass (λ v. is_above low v.key.row) us (λ v h. above_more low u.key.row v.key.row (rows_rise u v (first_less u us up v h)) e)))))
    (λ e. rw (f u (inl refl), e) (from_its_key k low us (later_rises u us up) (λ v h. f v (inr h))))

-- what a range begins with are the rows that aren't below its low end
pub from_low_is : (low : Bound) (w : List Record) → IsRising w → HasI64Timestamps w → from_low low w ≡ filter (λ u. is_above low u.key.row) w
from_low_is Unbounded w up i64 = sym (all_pass (λ u. true) w (λ u h. refl))
from_low_is (Inclusive row) w up i64 = from_its_key (row_start row) (Inclusive row) w up (λ u h. starts_row row u.key (i64 u h) ∙ under_row row u.key.row)
from_low_is (Exclusive row) w up i64 = from_its_key (row_start (row ++ 0 ∷ [])) (Exclusive row) w up (λ u h. starts_row (row ++ 0 ∷ []) u.key (i64 u h) ∙ under_next row u.key.row)

-- ---- taken one by one
-- the cells of those that aren't above the high end
abbrev pub below : Bound → List Record → List Cell
below high us = map cell_of (filter (λ u. is_below high u.key.row) us)

-- the cell of the first record, and what is left
pub takes_one : (high : Bound) (rest left : List Record) (u : Record) (before after all : List Cell) → before ++ below high rest ≡ all → Some u ≡ first_of rest → left ≡ tail rest → is_below high u.key.row ≡ true → after ≡ before ++ cell_of u ∷ [] → after ++ below high left ≡ all
takes_one high [] left u before after all h f t b more = absurd (let bad : Some u ≡ None = f in cc)
takes_one high (x ∷ xs) left u before after all h f t b more =
    let first : u ≡ x = cc in
    let passes : below high (x ∷ xs) ≡ cell_of x ∷ below high xs = rw (sym (ap (λ (r : Record). is_below high r.key.row) first) ∙ b) refl in
    (λ i. (more ∙ (λ k. before ++ cell_of (first k) ∷ [])) i ++ below high (t i))
    ∙ append_assoc before (cell_of x ∷ []) (below high xs)
    ∙ ap (λ l. before ++ l) (sym passes)
    ∙ h

-- nothing is left
pub none_left : (high : Bound) (rest : List Record) → None ≡ first_of rest → below high rest ≡ []
none_left high [] e = refl
none_left high (x ∷ xs) e = absurd (let bad : None ≡ Some x = e in cc)

-- the first one is above the high end, and so are all
pub none_below : (high : Bound) (rest : List Record) (u : Record) → IsRising rest → Some u ≡ first_of rest → is_below high u.key.row ≡ false → below high rest ≡ []
none_below high [] u up f n = refl
none_below high (x ∷ xs) u up f n =
    let first : u ≡ x = cc in
    let above : is_below high x.key.row ≡ false = sym (ap (λ (r : Record). is_below high r.key.row) first) ∙ n in
    let later : (v : Record) → IsIn xs v → is_below high v.key.row ≡ false = λ v h. by_bool (is_below high v.key.row) (λ e. absurd (true≢false (sym (below_less high x.key.row v.key.row (rows_rise x v (first_less x xs up v h)) e) ∙ above))) (λ e. e) in
    let none : filter (λ (v : Record). is_below high v.key.row) (x ∷ xs) ≡ [] = rw above (none_pass (λ v. is_below high v.key.row) xs later) in
    ap (map cell_of) none

-- those of a range, first by its low end and then by its high one
pub in_range : (rows : Bounds) (w : List Record) → below rows.high (filter (λ u. is_above rows.low u.key.row) w) ≡ cells_within rows (map cell_of w)
in_range rows [] = refl
in_range rows (u ∷ us) = go (is_above rows.low u.key.row) (is_below rows.high u.key.row) refl refl (in_range rows us)
  where
    go : (a b : Bool) → is_above rows.low u.key.row ≡ a → is_below rows.high u.key.row ≡ b → below rows.high (filter (λ v. is_above rows.low v.key.row) us) ≡ cells_within rows (map cell_of us) → below rows.high (filter (λ v. is_above rows.low v.key.row) (u ∷ us)) ≡ cells_within rows (map cell_of (u ∷ us))
    go true true e f ih = rw (e, f) (ap (λ l. cell_of u ∷ l) ih)
    go true false e f ih = rw (e, f) ih
    go false b e f ih = rw e ih

pub all_in_range : (rows : Bounds) (w rest : List Record) (cells left : List Cell) → IsRising w → HasI64Timestamps w → rest ≡ from_low rows.low w → cells ++ left ≡ below rows.high rest → left ≡ [] → cells ≡ cells_within rows (map cell_of w)
all_in_range rows w rest cells left up i64 at all none =
    sym (append-nil cells) ∙ ap (λ l. cells ++ l) (sym none) ∙ all ∙ ap (below rows.high) (at ∙ from_low_is rows.low w up i64) ∙ in_range rows w
