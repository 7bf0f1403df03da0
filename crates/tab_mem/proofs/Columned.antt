-- The order of records of one row, and its numbers.
use Rattle.std.proofs.Common.{◌≡◌, ◌≢◌, ℕ, ◌+◌, ◌-◌, ◌<◌, ◌≤◌, List, [], ◌∷◌, ◌++◌, Bool, refl, sym, ◌∙◌, ap, subst, length, take, drop, arith, append_assoc, length-append}
use Rattle.std.specs.Prelude.{pos}
use Rattle.std.specs.Cmp.{IsStrictWeakOrder, tied_itself}
use Rattle.std.specs.Cmp.Lexicographic.{nat_list_cmp_total}
use Rattle.std.specs.List.{All, slice_range, slice_index_or}
use Rattle.std.specs.List.Sorted.{IsPermutation, IsSortedBy}
use Rattle.std.specs.Ordering.{nat_cmp, int_cmp, is_lt, ordering_then}
use Rattle.std.specs.declared.cmp.Ordering.{Ordering}
use Rattle.std.specs.declared.cmp.Ordering.TheVariants.{Less, Equal, Greater}
use Rattle.std.proofs.lemmas.List.{drop-take, take-take}
use Rattle.std.proofs.lemmas.List.Elements.{All-from_recursion}
use Rattle.std.proofs.lemmas.List.Sorted.{ranks_by, All-permutation}
use Rattle.tab_key.specs.Bytes.{bytes_cmp}
use Rattle.tab_key.specs.Order.{kind_rank, column_cmp, key_cmp, place_cmp, newer_cmp, record_cmp}
use Rattle.tab_key.specs.Records.{Record}
use Rattle.tab_key.specs.RowPrefix.{IsRowPrefix}
use Rattle.tab_key.specs.Sorted.{sorted, IsDistinct}
use Rattle.tab_key.proofs.ColumnOrder.{in_one_piece}
use Rattle.tab_key.proofs.Order.{record_cmp_total}
use Rattle.tab_key.proofs.Packed.{part_of}
use Rattle.tab_key.proofs.Rising.{all_sorted}
use Rattle.tab_key.proofs.RowPrefix.{prefix_orders}
use Rattle.tab_key.proofs.Sorting.{sorted_permutation}
use Rattle.tab_mem.specs.Groups.{row_of, HaveRow, IsOfOneRow, HasOneRow, without_row, behind_row_cmp}

-- ---- family and qualifier in one piece
names_joined : (f g q r : List ℕ) → length f ≡ length g → bytes_cmp (f ++ q) (g ++ r) ≡ ordering_then (bytes_cmp f g) (bytes_cmp q r)
unfolding column_cmp
names_joined f g q r e = in_one_piece (record { row = []; family = []; qualifier = f; label = q; timestamp = pos 0 }) (record { row = []; family = []; qualifier = g; label = r; timestamp = pos 0 }) refl refl e

column_long : (c row family qualifier label : List ℕ) → c ≡ row ++ family ++ qualifier ++ label → length c ≡ length row + length family + length qualifier + length label
column_long c row family qualifier label e = omega (arith, ap length e, length-append (row ++ family ++ qualifier) label, length-append (row ++ family) qualifier, length-append row family)

-- where they lie in the column
pub names_fit : (c row family qualifier label : List ℕ) → c ≡ row ++ family ++ qualifier ++ label → length row + length label ≤ length c
names_fit c row family qualifier label e = omega (arith, column_long c row family qualifier label e)

pub names_between : (c : List ℕ) (start end : ℕ) (row family qualifier label : List ℕ) → c ≡ row ++ family ++ qualifier ++ label → start ≡ length row → end ≡ length c - length label → slice_range c start end ≡ family ++ qualifier
names_between c start end row family qualifier label e s t =
    part_of c row (family ++ qualifier) label start end (e ∙ ap (λ l. l ++ label) (append_assoc row family qualifier)) s
    (omega (arith, s, t, column_long c row family qualifier label e, length-append family qualifier))

slice_of_front : (n a b : ℕ) (xs : List ℕ) → a ≤ b → b ≤ n → slice_range (take n xs) a b ≡ slice_range xs a b
slice_of_front n a b xs order inside =
    let sum : n ≡ a + (n - a) = omega (arith, order, inside) in
    ap (λ k. take (b - a) (drop a (take k xs))) sum
    ∙ ap (take (b - a)) (drop-take a (n - a) xs)
    ∙ take-take (b - a) (n - a) (drop a xs) (omega (arith, inside))

-- where more lies behind them
pub names_onward : (onward c : List ℕ) (start end : ℕ) (row family qualifier label : List ℕ) → take (length c) onward ≡ c → c ≡ row ++ family ++ qualifier ++ label → start ≡ length row → end ≡ length c - length label → slice_range onward start end ≡ family ++ qualifier
names_onward onward c start end row family qualifier label more e s t =
    let fit = names_fit c row family qualifier label e in
    sym (slice_of_front (length c) start end onward (omega (arith, s, t, fit)) (omega (arith, t)))
    ∙ ap (λ (l : List ℕ). slice_range l start end) more
    ∙ names_between c start end row family qualifier label e s t

-- ---- their prefixes decide, where the families are of one length and the prefixes differ
settled : (o x l t k n : Ordering) → o ≢ Equal → o ≡ x → o ≡ ordering_then (ordering_then (ordering_then (ordering_then x l) t) k) n
settled Less x l t k n other e = rw (sym e) refl
settled Equal x l t k n other e = absurd (other refl)
settled Greater x l t k n other e = rw (sym e) refl

pub column_decides : (a b : Record) (m n : ℕ) (o : Ordering) → length a.key.family ≡ length b.key.family → IsRowPrefix m (a.key.family ++ a.key.qualifier) → IsRowPrefix n (b.key.family ++ b.key.qualifier) → nat_cmp m n ≡ o → o ≢ Equal → o ≡ behind_row_cmp a b
unfolding behind_row_cmp column_cmp key_cmp place_cmp
column_decides a b m n o long p q e other =
    settled o (ordering_then (bytes_cmp a.key.family b.key.family) (bytes_cmp a.key.qualifier b.key.qualifier)) (bytes_cmp a.key.label b.key.label) (int_cmp b.key.timestamp a.key.timestamp) (nat_cmp (kind_rank a.kind) (kind_rank b.kind)) (newer_cmp (without_row a) (without_row b)) other
    (prefix_orders (a.key.family ++ a.key.qualifier) (b.key.family ++ b.key.qualifier) m n o p q e other ∙ names_joined a.key.family b.key.family a.key.qualifier b.key.qualifier long)

-- ---- it is the order of records where these are of one row
tied_rows : (a b : List ℕ) → a ≡ b → bytes_cmp a b ≡ Equal
tied_rows a b e = ap (bytes_cmp a) (sym e) ∙ tied_itself nat_list_cmp_total a

rows_alike : (a b : Record) → a.key.row ≡ b.key.row → record_cmp a b ≡ behind_row_cmp a b
unfolding behind_row_cmp column_cmp key_cmp place_cmp newer_cmp
rows_alike a b e = rw (tied_rows a.key.row b.key.row e) refl

-- records of lower rows stand before
pub lower_row : (a b : Record) → bytes_cmp a.key.row b.key.row ≡ Less → record_cmp a b ≡ Less
unfolding column_cmp key_cmp place_cmp
lower_row a b e = rw e refl

abbrev pub stands_behind : Record → Record → Bool
stands_behind a b = is_lt (behind_row_cmp a b)

-- it is an order as a sort wants it
pub behind_order : IsStrictWeakOrder stands_behind
unfolding behind_row_cmp
behind_order = ranks_by record_cmp_total without_row

pub row_sorted : (xs ys : List Record) → IsDistinct xs → IsOfOneRow xs → IsPermutation xs ys → IsSortedBy stands_behind ys → ys ≡ sorted xs
row_sorted xs ys d one p s =
    let all : All (λ (u : Record). u.key.row ≡ row_of xs) ys = All-permutation (λ (u : Record). u.key.row ≡ row_of xs) xs ys p (All-from_recursion (λ (u : Record). u.key.row ≡ row_of xs) xs one) in
    sorted_permutation xs ys d p (λ k e low high.
    ap is_lt (rows_alike (slice_index_or ys (k + 1) e) (slice_index_or ys k e) (all (k + 1) e high ∙ sym (all k e (omega (arith, high))))) ∙ s k e low high)

-- ---- what has one row
pub one_row : (row : List ℕ) (us : List Record) → HaveRow row us → IsOfOneRow us
one_row row [] a = tt
one_row row (u ∷ us) a = (refl, go us a.1)
  where
    go : (vs : List Record) → HaveRow row vs → HaveRow u.key.row vs
    go [] b = tt
    go (v ∷ vs) b = (b.0 ∙ sym a.0, go vs b.1)

pub group_row : (prefix : ℕ) (us vs : List Record) → vs ≡ us → IsRowPrefix prefix (row_of us) → IsOfOneRow us → HasOneRow prefix vs
group_row prefix us vs e own one = record { row = row_of us; own = own; same = subst (HaveRow (row_of us)) (sym e) one }

pub same_row : (prefix : ℕ) (us vs : List Record) → vs ≡ us → HasOneRow prefix us → HasOneRow prefix vs
same_row prefix us vs e h = subst (HasOneRow prefix) (sym e) h

pub sorted_row : (prefix : ℕ) (us vs : List Record) → vs ≡ sorted us → HasOneRow prefix us → HasOneRow prefix vs
sorted_row prefix us vs e h = record { row = h.row; own = h.own; same = subst (HaveRow h.row) (sym e) (all_sorted (λ (u : Record). u.key.row ≡ h.row) us h.same) }

pub item_prefix : (prefix : ℕ) (us : List Record) (k : ℕ) (u : Record) → HasOneRow prefix us → k < length us → u ≡ slice_index_or us k u → IsRowPrefix prefix u.key.row
item_prefix prefix us k u h lt is =
    let all : All (λ (v : Record). v.key.row ≡ h.row) us = All-from_recursion (λ (v : Record). v.key.row ≡ h.row) us h.same in
    subst (IsRowPrefix prefix) (sym (ap (λ (v : Record). v.key.row) is ∙ all k u lt)) h.own
