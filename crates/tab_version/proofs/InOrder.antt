-- Tablets as lists of records, each in its order.
use Rattle.std.proofs.Common.{◌≡◌, ◌≢◌, inl, ℕ, zero, suc, ◌<◌, ◌≤◌, List, [], ◌∷◌, ◌++◌, Bool, true, false, not, cond, ◌==◌, refl, sym, ◌∙◌, ap, subst, length, map, take, arith, length-take}
use Rattle.std.specs.Prelude.{filter, slice_index_or}
use Rattle.std.specs.List.{AllByRecursion}
use Rattle.std.specs.List.Sorted.{IsPermutation, IsPartitionedBy, IsPartitionPoint}
use Rattle.std.proofs.lemmas.List.{get_or-map, get_or-take, length-map}
use Rattle.std.proofs.lemmas.List.Sorted.{IsPermutation-refl, IsPermutation-sym, IsPermutation-trans, IsPermutation-cons, IsPermutation-middle, IsPermutation-append_left, IsPermutation-append_right, Contains-permutation}
use Rattle.std.proofs.Math.Dec.{eqb-suc-zero}
use Rattle.std.specs.Ordering.{is_lt}
use mathlib.Core.Bool.{true≢false}
use Rattle.tab_key.specs.Order.{key_cmp, stands_before}
use Rattle.tab_key.specs.Records.{Key, Record, cell_of}
use Rattle.tab_key.specs.Sorted.{inserted, sorted, IsDistinct, IsIn}
use Rattle.tab_key.specs.declared.column.Column.{Column}
use Rattle.tab_key.proofs.Rising.{in_from, in_to, in_sorted, sorted_in, rising_sorted, same_rising}
use Rattle.tab_key.proofs.Sorting.{distinct_permuted}
use Rattle.tab_cells.specs.Cells.{cells}
use Rattle.tab_cells.proofs.Lists.{by_bool}
use Rattle.tab_cells.proofs.Rising.{rising_distinct, sorted_rising}
use Rattle.tab_label.specs.Holding.{label_holds}
use Rattle.tab_key.specs.Columns.{is_selected}
use Rattle.tab_iter.specs.Bags.{flat}
use Rattle.tab_iter.specs.Lists.{IsRising}
use Rattle.tab_iter.specs.Stack.{query_of, shown_of, stacked}
use Rattle.tab_iter.proofs.BagLaws.{apart_left, apart_right}
use Rattle.tab_iter.proofs.StackLaws.{stack_lists, any_sorted}
use Rattle.tab_version.specs.InTurn.{AreInTurn, in_order, reaches}
use Rattle.tab_version.specs.Sources.{Sources, no_sources, records_of}
use Rattle.tab_version.proofs.Reaching.{later_lists}

-- ---- sorting is a permutation
permuted_inserted : (x : Record) (xs : List Record) → IsPermutation (x ∷ xs) (inserted x xs)
permuted_inserted x [] = IsPermutation-refl (x ∷ [])
permuted_inserted x (y ∷ ys) = go (stands_before x y) (permuted_inserted x ys)
  where
    go : (v : Bool) → IsPermutation (x ∷ ys) (inserted x ys) → IsPermutation (x ∷ y ∷ ys) (cond v (x ∷ y ∷ ys) (y ∷ inserted x ys))
    go true ih = IsPermutation-refl (x ∷ y ∷ ys)
    go false ih = IsPermutation-trans (x ∷ y ∷ ys) (y ∷ x ∷ ys) (y ∷ inserted x ys) (IsPermutation-middle (x ∷ []) y ys) (IsPermutation-cons y (x ∷ ys) (inserted x ys) ih)

pub permuted_sorted : (xs : List Record) → IsPermutation xs (sorted xs)
permuted_sorted [] = IsPermutation-refl []
permuted_sorted (x ∷ xs) = IsPermutation-trans (x ∷ xs) (x ∷ sorted xs) (inserted x (sorted xs)) (IsPermutation-cons x xs (sorted xs) (permuted_sorted xs)) (permuted_inserted x (sorted xs))

permuted_each : (ts : List Sources) → IsPermutation (flat (map records_of ts)) (flat (in_order ts))
permuted_each [] = IsPermutation-refl []
permuted_each (t ∷ ts) =
    IsPermutation-trans (records_of t ++ flat (map records_of ts)) (sorted (records_of t) ++ flat (map records_of ts)) (sorted (records_of t) ++ flat (in_order ts))
    (IsPermutation-append_left (flat (map records_of ts)) (records_of t) (sorted (records_of t)) (permuted_sorted (records_of t)))
    (IsPermutation-append_right (sorted (records_of t)) (flat (map records_of ts)) (flat (in_order ts)) (permuted_each ts))

-- ---- tablets that lie one behind the other
pub all_distinct : (ts : List Sources) → IsRising (flat (in_order ts)) → IsDistinct (flat (map records_of ts))
all_distinct ts up = distinct_permuted (flat (in_order ts)) (flat (map records_of ts)) (IsPermutation-sym (flat (map records_of ts)) (flat (in_order ts)) (permuted_each ts)) (rising_distinct (flat (in_order ts)) up)

pub all_sorted : (ts : List Sources) → IsRising (flat (in_order ts)) → flat (in_order ts) ≡ sorted (flat (map records_of ts))
all_sorted ts up =
    let us = flat (map records_of ts) in
    let ws = flat (in_order ts) in
    let p = permuted_each ts in
    same_rising ws (sorted us) up (rising_sorted us (all_distinct ts up))
    (λ u h. sorted_in us u (in_from us u (Contains-permutation ws us u (IsPermutation-sym us ws p) (in_to ws u h))))
    (λ u h. in_from ws u (Contains-permutation us ws u p (in_to us u (in_sorted us u h))))

-- a source over them, one after another, lists all in order
pub one_by_one : (ts lent : List Sources) (w us : List Record) → IsRising (flat (in_order ts)) → w ≡ flat (in_order lent) → lent ≡ ts → flat (map records_of ts) ≡ us → w ≡ sorted us
one_by_one ts lent w us up is v e = is ∙ ap (λ l. flat (in_order l)) v ∙ all_sorted ts up ∙ ap sorted e

-- what holds of each record holds of each in order
pub order_holds : (P : Record → Type 0) (ts : List Sources) → ((u : Record) → IsIn (flat (map records_of ts)) u → P u) → (u : Record) → IsIn (flat (in_order ts)) u → P u
order_holds P ts f u h =
    let us = flat (map records_of ts) in
    let ws = flat (in_order ts) in
    f u (in_from us u (Contains-permutation ws us u (IsPermutation-sym us ws (permuted_each ts)) (in_to ws u h)))

distinct_at : (ts : List Sources) (i : ℕ) (d : Sources) → i < length ts → IsDistinct (flat (map records_of ts)) → IsDistinct (records_of (slice_index_or ts i d))
distinct_at [] i d lt a = absurd (omega (arith, lt))
distinct_at (t ∷ ts) zero d lt a = apart_left (records_of t) (flat (map records_of ts)) a
distinct_at (t ∷ ts) (suc i) d lt a = distinct_at ts i d (omega (arith, lt)) (apart_right (records_of t) (flat (map records_of ts)) a)

-- one of them, by a cursor for each of its clips
pub one_distinct : (ts : List Sources) (i : ℕ) (t : Sources) (us : List Record) → i < length ts → IsRising (flat (in_order ts)) → t ≡ slice_index_or ts i t → us ≡ records_of t → IsDistinct us
one_distinct ts i t us lt up is e = subst IsDistinct (sym (e ∙ ap records_of is)) (distinct_at ts i t lt (all_distinct ts up))

pub one_listed : (ts : List Sources) (i : ℕ) (t : Sources) (us w : List Record) → i < length ts → t ≡ slice_index_or ts i t → us ≡ records_of t → w ≡ sorted us → w ≡ slice_index_or (in_order ts) i []
one_listed ts i t us w lt is e s = s ∙ ap sorted (e ∙ ap records_of is) ∙ sym (get_or-map (λ (x : Sources). sorted (records_of x)) ts i t [] lt)

-- ---- where a key lies in them
same_reach : (k : Key) (ts : List Sources) (n i : ℕ) (d : Sources) → i < n → n ≤ length ts → reaches k (slice_index_or (in_order ts) i []) ≡ reaches k (records_of (slice_index_or (take n ts) i d))
same_reach k ts n i d lt le =
    let inside : i < length ts = omega (arith, lt, le) in
    ap (reaches k) (get_or-map (λ (x : Sources). sorted (records_of x)) ts i d [] inside)
    ∙ any_sorted (λ (u : Record). not (is_lt (key_cmp u.key k))) (records_of (slice_index_or ts i d))
    ∙ ap (λ x. reaches k (records_of x)) (sym (get_or-take n ts i d lt))

not_true : (v : Bool) → not v ≡ true → v ≡ false
not_true true e = absurd (true≢false (sym e))
not_true false e = refl

not_false : (v : Bool) → not v ≡ false → v ≡ true
not_false true e = refl
not_false false e = absurd (true≢false e)

-- the first of them don't reach the key, and the others do
pub parted : (k : Key) (ts : List Sources) (n : ℕ) → AreInTurn (in_order ts) → n ≤ length ts → IsPartitionedBy (λ t. not (reaches k (records_of t))) (take n ts)
parted k ts n o le i j d low high e = by_bool (reaches k (records_of (slice_index_or (take n ts) i d))) past (λ f. ap not f)
  where
    less : j < n
    less = omega (arith, high, length-take n ts)

    past : reaches k (records_of (slice_index_or (take n ts) i d)) ≡ true → not (reaches k (records_of (slice_index_or (take n ts) i d))) ≡ true
    past t =
        let first : i < n = omega (arith, low, less) in
        let inside : j < length (in_order ts) = omega (arith, less, le, length-map ts (λ (x : Sources). sorted (records_of x))) in
        let later = later_lists k (in_order ts) o.rising o.filled i j low inside (same_reach k ts n i d first le ∙ t) in
        absurd (true≢false (sym (sym (same_reach k ts n j d less le) ∙ later) ∙ not_true (reaches k (records_of (slice_index_or (take n ts) j d))) e))

pub found_passed : (k : Key) (ts : List Sources) (n at : ℕ) → n ≤ length ts → at ≤ n → IsPartitionPoint (λ t. not (reaches k (records_of t)) ≡ true) (λ t. not (reaches k (records_of t)) ≡ false) (take n ts) at → (i : ℕ) → i < at → reaches k (slice_index_or (in_order ts) i []) ≡ false
found_passed k ts n at le within p i lt =
    same_reach k ts n i no_sources (omega (arith, lt, within)) le ∙ not_true (reaches k (records_of (slice_index_or (take n ts) i no_sources))) (p.0 i no_sources (omega arith) lt)

pub found_here : (k : Key) (ts : List Sources) (n at : ℕ) → n ≤ length ts → IsPartitionPoint (λ t. not (reaches k (records_of t)) ≡ true) (λ t. not (reaches k (records_of t)) ≡ false) (take n ts) at → at < n → reaches k (slice_index_or (in_order ts) at []) ≡ true
found_here k ts n at le p lt =
    let inside : at < length (take n ts) = omega (arith, length-take n ts, lt, le) in
    same_reach k ts n at no_sources lt le ∙ not_false (reaches k (records_of (slice_index_or (take n ts) at no_sources))) (p.1 at no_sources (omega arith) inside)

-- ---- without the empty ones
kept_of : (f : Sources → List Record) (p : Sources → Bool) → ((t : Sources) → p t ≡ false → f t ≡ []) → (ts : List Sources) → flat (map f (filter p ts)) ≡ flat (map f ts)
kept_of f p none [] = refl
kept_of f p none (t ∷ ts) = by_bool (p t)
    (λ e. ap (λ v. flat (map f (cond v (t ∷ filter p ts) (filter p ts)))) e ∙ ap (λ l. f t ++ l) (kept_of f p none ts))
    (λ e. ap (λ v. flat (map f (cond v (t ∷ filter p ts) (filter p ts)))) e ∙ kept_of f p none ts ∙ ap (λ l. l ++ flat (map f ts)) (sym (none t e)))

-- whether a tablet has a record
abbrev pub is_filled : Sources → Bool
is_filled t = not (length (records_of t) == 0)

none_held : (us : List Record) → not (length us == 0) ≡ false → us ≡ []
none_held [] e = refl
none_held (u ∷ us) e = absurd (true≢false (sym (ap not (eqb-suc-zero (length us))) ∙ e))

pub kept_records : (ts us : List Sources) → us ≡ filter is_filled ts → flat (map records_of us) ≡ flat (map records_of ts)
kept_records ts us e = ap (λ l. flat (map records_of l)) e ∙ kept_of records_of is_filled (λ t n. none_held (records_of t) n) ts

kept_order : (ts us : List Sources) → us ≡ filter is_filled ts → flat (in_order us) ≡ flat (in_order ts)
kept_order ts us e = ap (λ l. flat (in_order l)) e ∙ kept_of (λ t. sorted (records_of t)) is_filled (λ t n. ap sorted (none_held (records_of t) n)) ts

some_held : (us : List Record) → not (length us == 0) ≡ true → sorted us ≢ []
some_held [] e n = true≢false (sym e)
some_held (u ∷ us) e n = subst (λ l. IsIn l u) n (sorted_in (u ∷ us) u (inl refl))

each_filled : (ts : List Sources) → AllByRecursion (λ (xs : List Record). xs ≢ []) (in_order (filter is_filled ts))
each_filled [] = tt
each_filled (t ∷ ts) = by_bool (is_filled t)
    (λ e. subst (λ v. AllByRecursion (λ (xs : List Record). xs ≢ []) (in_order (cond v (t ∷ filter is_filled ts) (filter is_filled ts)))) (sym e) (some_held (records_of t) e, each_filled ts))
    (λ e. subst (λ v. AllByRecursion (λ (xs : List Record). xs ≢ []) (in_order (cond v (t ∷ filter is_filled ts) (filter is_filled ts)))) (sym e) (each_filled ts))

pub kept_rising : (ts us : List Sources) → us ≡ filter is_filled ts → IsRising (flat (in_order ts)) → IsRising (flat (in_order us))
kept_rising ts us e up = subst IsRising (sym (kept_order ts us e)) up

pub kept_filled : (ts us : List Sources) → us ≡ filter is_filled ts → AllByRecursion (λ (xs : List Record). xs ≢ []) (in_order us)
kept_filled ts us e = subst (λ l. AllByRecursion (λ (xs : List Record). xs ≢ []) (in_order l)) (sym e) (each_filled ts)

-- ---- what a scan shows
-- the records in another order show the same
pub shown_sorted : (us ws : List Record) (n : ℕ) (columns : List Column) (auths : List (List ℕ)) → IsDistinct us → ws ≡ sorted us → shown_of ws n (query_of columns auths) ≡ shown_of us n (query_of columns auths)
shown_sorted us ws n columns auths d is =
    let w : List Record = sorted us in
    let lets : List Record → Record → Bool = stacked n (is_selected columns) (λ k. label_holds k.label auths) in
    let shown : List Record = filter (lets w) w in
    let up : IsRising w = rising_sorted us d in
    ap (λ l. shown_of l n (query_of columns auths)) is
    ∙ sym (stack_lists w n columns auths lets w shown (sym (sorted_rising w up)) refl refl (rising_distinct w up))
    ∙ stack_lists us n columns auths lets w shown refl refl refl d

pub cells_sorted : (us ws : List Record) (n : ℕ) (columns : List Column) (auths : List (List ℕ)) → IsDistinct us → ws ≡ sorted us → cells ws n (query_of columns auths) ≡ cells us n (query_of columns auths)
unfolding cells
cells_sorted us ws n columns auths d is = ap (map cell_of) (shown_sorted us ws n columns auths d is)

-- ---- none is empty
is_none : (n : ℕ) (us vs : List Record) → sorted us ≢ [] → (suc n == 0) ≡ (length (us ++ vs) == 0)
is_none n [] vs filled = absurd (filled refl)
is_none n (u ∷ us) vs filled = eqb-suc-zero n ∙ sym (eqb-suc-zero (length (us ++ vs)))

-- so where there is no record there is no tablet
pub none_of_all : (ts : List Sources) → AreInTurn (in_order ts) → (length ts == 0) ≡ (length (flat (map records_of ts)) == 0)
none_of_all ts turn = go ts turn.filled
  where
    go : (ss : List Sources) → AllByRecursion (λ (xs : List Record). xs ≢ []) (in_order ss) → (length ss == 0) ≡ (length (flat (map records_of ss)) == 0)
    go [] filled = refl
    go (s ∷ ss) filled = is_none (length ss) (records_of s) (flat (map records_of ss)) filled.0
