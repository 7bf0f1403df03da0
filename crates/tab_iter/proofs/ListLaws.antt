-- What follows of lists of records.
use Rattle.std.proofs.Common.{◌≡◌, ◌⊎◌, inl, inr, List, [], ◌∷◌, ◌++◌, Bool, true, false, cond, refl, sym, ◌∙◌, ap, subst, append_assoc, arith}
use Rattle.std.specs.Prelude.{ℤ, filter, int_le}
use Rattle.std.specs.List.{AllByRecursion}
use Rattle.std.proofs.lemmas.List.{append-nil}
use Rattle.std.specs.List.Sorted.{IsStrictlySortedBy}
use Rattle.std.proofs.lemmas.Int.{ints}
use Rattle.std.specs.Ordering.{int_cmp, is_lt, is_gt, ordering_then, ordering_reverse}
use Rattle.std.specs.declared.cmp.Ordering.{Ordering}
use Rattle.std.specs.declared.cmp.Ordering.TheVariants.{Less, Equal, Greater}
use mathlib.Core.Bool.{true≢false}
use Rattle.tab_key.specs.Order.{column_cmp, key_cmp, place_cmp, record_cmp}
use Rattle.tab_key.proofs.Order.{column_cmp_total, key_cmp_total}
use Rattle.tab_key.specs.Records.{Key, Record}
use Rattle.tab_key.specs.Sorted.{IsIn}
use Rattle.tab_key.proofs.Rising.{all_in, is_less}
use Rattle.tab_cells.proofs.Lists.{by_bool, in_right}
pub use Rattle.tab_iter.specs.SourceLaws.{ends_nil}
use Rattle.tab_iter.specs.Lists.{first_of, tail, from_key, from_column, IsRising, latest, HasI64Timestamps, column_start, IsEnd, BeginsColumn, is_settled}

pub append_nil : (xs : List Record) → xs ++ [] ≡ xs
append_nil = append-nil

-- ---- rising lists
pub each_in : (P : Record → Type 0) (xs : List Record) → ((u : Record) → IsIn xs u → P u) → AllByRecursion P xs
each_in P [] f = tt
each_in P (x ∷ xs) f = (f x (inl refl), each_in P xs (λ u h. f u (inr h)))

pub rises_none : IsRising []
unfolding IsStrictlySortedBy
rises_none = tt

pub rises_more : (r : Record) (rs : List Record) → ((u : Record) → IsIn rs u → record_cmp r u ≡ Less) → IsRising rs → IsRising (r ∷ rs)
unfolding IsStrictlySortedBy
rises_more r rs f up = (each_in (λ u. record_cmp r u ≡ Less) rs f, up)

-- the first stands before each that follows
pub first_less : (r : Record) (rs : List Record) → IsRising (r ∷ rs) → (u : Record) → IsIn rs u → record_cmp r u ≡ Less
unfolding IsStrictlySortedBy
first_less r rs up u h = all_in (λ v. record_cmp r v ≡ Less) rs up.0 u h

pub later_rises : (r : Record) (rs : List Record) → IsRising (r ∷ rs) → IsRising rs
unfolding IsStrictlySortedBy
later_rises r rs up = up.1

-- ---- ends
pub ends_whole : (w : List Record) → IsEnd w w
ends_whole w = record { passed = []; whole = refl }

pub ends_tail : (xs w : List Record) → IsEnd xs w → IsEnd (tail xs) w
ends_tail [] w e = e
ends_tail (r ∷ rs) w e = record { passed = e.passed ++ r ∷ []; whole = append_assoc e.passed (r ∷ []) rs ∙ e.whole }

pub ends_more : (x : Record) (xs w : List Record) → IsEnd xs w → IsEnd xs (x ∷ w)
ends_more x xs w e = record { passed = x ∷ e.passed; whole = ap (λ l. x ∷ l) e.whole }

pub ends_from_key : (k : Key) (w : List Record) → IsEnd (from_key k w) w
ends_from_key k [] = ends_whole []
ends_from_key k (r ∷ rs) = go (is_lt (key_cmp r.key k)) (ends_from_key k rs)
  where
    go : (v : Bool) → IsEnd (from_key k rs) rs → IsEnd (cond v (from_key k rs) (r ∷ rs)) (r ∷ rs)
    go true e = ends_more r (from_key k rs) rs e
    go false e = ends_whole (r ∷ rs)

pub in_end : (xs w : List Record) → IsEnd xs w → (u : Record) → IsIn xs u → IsIn w u
in_end xs w e u h = subst (λ l. IsIn l u) e.whole (in_right e.passed xs u h)

rising_append : (xs ys : List Record) → IsRising (xs ++ ys) → IsRising ys
rising_append [] ys r = r
rising_append (x ∷ xs) ys r = rising_append xs ys (later_rises x (xs ++ ys) r)

pub rising_end : (xs w : List Record) → IsEnd xs w → IsRising w → IsRising xs
rising_end xs w e r = rising_append e.passed xs (subst IsRising (sym e.whole) r)

-- ---- a layer's remaining list, by what its source has left
pub first_settled : (p : Record → Bool) (xs : List Record) → is_settled p xs ≡ true → first_of (filter p xs) ≡ first_of xs
first_settled p [] e = refl
first_settled p (x ∷ xs) e = rw e refl

pub tail_settled : (p : Record → Bool) (xs : List Record) → is_settled p xs ≡ true → filter p (tail xs) ≡ tail (filter p xs)
tail_settled p [] e = refl
tail_settled p (x ∷ xs) e = rw e refl

pub filter_failing : (p : Record → Bool) (x : Record) (xs : List Record) → p x ≡ false → filter p (x ∷ xs) ≡ filter p xs
filter_failing p x xs e = rw e refl

-- ---- seeks
pub key_before : (a b : Record) (k : Key) → record_cmp a b ≡ Less → is_lt (key_cmp b.key k) ≡ true → is_lt (key_cmp a.key k) ≡ true
unfolding place_cmp
key_before a b k e h = go (key_cmp a.key b.key) refl
  where
    go : (o : Ordering) → key_cmp a.key b.key ≡ o → is_lt (key_cmp a.key k) ≡ true
    go Less s = ap is_lt (key_cmp_total.trans a.key b.key k s (is_less (key_cmp b.key k) h))
    go Equal s = ap is_lt (key_cmp_total.congr a.key b.key k s) ∙ h
    go Greater s = let f = rw s at e in cc

-- past the first record that isn't before k, none is
from_key_all : (k : Key) (xs : List Record) (p : Record → Bool) → ((u : Record) → IsIn xs u → is_lt (key_cmp u.key k) ≡ false) → from_key k (filter p xs) ≡ filter p xs
from_key_all k [] p f = refl
from_key_all k (x ∷ xs) p f = go (p x) (from_key_all k xs p (λ u h. f u (inr h)))
  where
    go : (v : Bool) → from_key k (filter p xs) ≡ filter p xs → from_key k (cond v (x ∷ filter p xs) (filter p xs)) ≡ cond v (x ∷ filter p xs) (filter p xs)
    go true ih = rw (f x (inl refl)) refl
    go false ih = ih

pub from_key_filter : (k : Key) (p : Record → Bool) (xs : List Record) → IsRising xs → from_key k (filter p xs) ≡ filter p (from_key k xs)
from_key_filter k p [] r = refl
from_key_filter k p (x ∷ xs) r = by_bool (is_lt (key_cmp x.key k)) (before (from_key_filter k p xs (later_rises x xs r))) after
  where
    skip : (v : Bool) → is_lt (key_cmp x.key k) ≡ true → from_key k (cond v (x ∷ filter p xs) (filter p xs)) ≡ from_key k (filter p xs)
    skip true e = rw e refl
    skip false e = refl

    before : from_key k (filter p xs) ≡ filter p (from_key k xs) → is_lt (key_cmp x.key k) ≡ true → from_key k (filter p (x ∷ xs)) ≡ filter p (from_key k (x ∷ xs))
    before ih e = skip (p x) e ∙ ih ∙ ap (λ v. filter p (cond v (from_key k xs) (x ∷ xs))) (sym e)

    none : is_lt (key_cmp x.key k) ≡ false → (u : Record) → IsIn (x ∷ xs) u → is_lt (key_cmp u.key k) ≡ false
    none e u (inl s) = ap (λ (t : Record). is_lt (key_cmp t.key k)) (sym s) ∙ e
    none e u (inr h) = by_bool (is_lt (key_cmp u.key k)) (λ t. absurd (true≢false (sym (key_before x u k (first_less x xs r u h) t) ∙ e))) (λ t. t)

    after : is_lt (key_cmp x.key k) ≡ false → from_key k (filter p (x ∷ xs)) ≡ filter p (from_key k (x ∷ xs))
    after e = from_key_all k (x ∷ xs) p (none e) ∙ ap (λ v. filter p (cond v (from_key k xs) (x ∷ xs))) (sym e)

-- a key's column begins no later than the key
pub column_first : (a k : Key) → is_lt (column_cmp a k) ≡ true → is_lt (key_cmp a k) ≡ true
unfolding key_cmp
column_first a k h = rw (is_less (column_cmp a k) h) refl

pub from_key_column : (k : Key) (xs : List Record) → from_key k (from_column k xs) ≡ from_key k xs
from_key_column k [] = refl
from_key_column k (x ∷ xs) = by_bool (is_lt (column_cmp x.key k)) (before (from_key_column k xs)) after
  where
    before : from_key k (from_column k xs) ≡ from_key k xs → is_lt (column_cmp x.key k) ≡ true → from_key k (from_column k (x ∷ xs)) ≡ from_key k (x ∷ xs)
    before ih e = ap (λ v. from_key k (cond v (from_column k xs) (x ∷ xs))) e ∙ ih ∙ ap (λ v. cond v (from_key k xs) (x ∷ xs)) (sym (column_first x.key k e))

    after : is_lt (column_cmp x.key k) ≡ false → from_key k (from_column k (x ∷ xs)) ≡ from_key k (x ∷ xs)
    after e = ap (λ v. from_key k (cond v (from_column k xs) (x ∷ xs))) e

pub column_upto : (a b : Record) → record_cmp a b ≡ Less → is_gt (column_cmp a.key b.key) ≡ false
unfolding place_cmp key_cmp
column_upto a b e = go (column_cmp a.key b.key) refl
  where
    go : (o : Ordering) → column_cmp a.key b.key ≡ o → is_gt (column_cmp a.key b.key) ≡ false
    go Less s = ap is_gt s
    go Equal s = ap is_gt s
    go Greater s = let f = rw s at e in cc

-- ---- the start of a column
-- a column that stands before that of b stands before those of what comes after b
pub column_less : (a k b : Key) → is_lt (column_cmp a k) ≡ true → is_lt (column_cmp b k) ≡ false → column_cmp a b ≡ Less
column_less a k b h n = go (column_cmp a b) refl
  where
    less : column_cmp a k ≡ Less
    less = is_less (column_cmp a k) h

    go : (o : Ordering) → column_cmp a b ≡ o → column_cmp a b ≡ Less
    go Less s = s
    go Equal s = let f : column_cmp b k ≡ Less = sym (column_cmp_total.congr a b k s) ∙ less in absurd (true≢false (sym (ap is_lt f) ∙ n))
    go Greater s =
        let back : column_cmp b a ≡ Less = column_cmp_total.antisymm b a ∙ ap ordering_reverse s in
        let f : column_cmp b k ≡ Less = column_cmp_total.trans b a k back less in
        absurd (true≢false (sym (ap is_lt f) ∙ n))

column_after : (a b : Record) (k : Key) → record_cmp a b ≡ Less → is_lt (column_cmp a.key k) ≡ false → is_lt (column_cmp b.key k) ≡ false
column_after a b k e n = by_bool (is_lt (column_cmp b.key k)) (λ t. absurd (go (column_cmp a.key b.key) refl t (column_upto a b e))) (λ t. t)
  where
    go : (o : Ordering) → column_cmp a.key b.key ≡ o → is_lt (column_cmp b.key k) ≡ true → is_gt (column_cmp a.key b.key) ≡ false → ⊥
    go Less s t g = true≢false (sym (ap is_lt (column_cmp_total.trans a.key b.key k s (is_less (column_cmp b.key k) t))) ∙ n)
    go Equal s t g = true≢false (sym (ap is_lt (column_cmp_total.congr a.key b.key k s) ∙ t) ∙ n)
    go Greater s t g = true≢false (sym (ap is_gt s) ∙ g)

pub in_from_column : (k : Key) (xs : List Record) → IsRising xs → (u : Record) → IsIn (from_column k xs) u → is_lt (column_cmp u.key k) ≡ false
in_from_column k [] r u h = absurd h
in_from_column k (x ∷ xs) r u h = by_bool (is_lt (column_cmp x.key k)) (before (in_from_column k xs (later_rises x xs r) u)) (λ e. after e (subst (λ v. IsIn (cond v (from_column k xs) (x ∷ xs)) u) e h))
  where
    before : (IsIn (from_column k xs) u → is_lt (column_cmp u.key k) ≡ false) → is_lt (column_cmp x.key k) ≡ true → is_lt (column_cmp u.key k) ≡ false
    before ih e = ih (subst (λ v. IsIn (cond v (from_column k xs) (x ∷ xs)) u) e h)

    after : is_lt (column_cmp x.key k) ≡ false → IsIn (x ∷ xs) u → is_lt (column_cmp u.key k) ≡ false
    after e (inl s) = ap (λ (t : Record). is_lt (column_cmp t.key k)) (sym s) ∙ e
    after e (inr m) = column_after x u k (first_less x xs r u m) e

begins_more : (k : Key) (x : Record) (xs : List Record) → is_lt (column_cmp x.key k) ≡ true → ((u : Record) → IsIn (from_column k xs) u → is_lt (column_cmp u.key k) ≡ false) → BeginsColumn (from_column k xs) xs → BeginsColumn (from_column k xs) (x ∷ xs)
begins_more k x xs e f b = record { passed = x ∷ b.passed; whole = ap (λ l. x ∷ l) b.whole; apart = apart }
  where
    apart : (p u : Record) → (x ≡ p) ⊎ IsIn b.passed p → IsIn (from_column k xs) u → column_cmp p.key u.key ≡ Less
    apart p u (inl s) h = subst (λ (t : Record). column_cmp t.key u.key ≡ Less) s (column_less x.key k u.key e (f u h))
    apart p u (inr m) h = b.apart p u m h

begins_whole : (w : List Record) → BeginsColumn w w
begins_whole w = record { passed = []; whole = refl; apart = λ p u h. absurd h }

pub begins_column : (k : Key) (w : List Record) → IsRising w → BeginsColumn (from_column k w) w
begins_column k [] r = begins_whole []
begins_column k (x ∷ xs) r = by_bool (is_lt (column_cmp x.key k)) (before (begins_column k xs (later_rises x xs r))) after
  where
    before : BeginsColumn (from_column k xs) xs → is_lt (column_cmp x.key k) ≡ true → BeginsColumn (cond (is_lt (column_cmp x.key k)) (from_column k xs) (x ∷ xs)) (x ∷ xs)
    before ih e = subst (λ v. BeginsColumn (cond v (from_column k xs) (x ∷ xs)) (x ∷ xs)) (sym e) (begins_more k x xs e (in_from_column k xs (later_rises x xs r)) ih)

    after : is_lt (column_cmp x.key k) ≡ false → BeginsColumn (cond (is_lt (column_cmp x.key k)) (from_column k xs) (x ∷ xs)) (x ∷ xs)
    after e = subst (λ v. BeginsColumn (cond v (from_column k xs) (x ∷ xs)) (x ∷ xs)) (sym e) (begins_whole (x ∷ xs))

pub begins_all : (w : List Record) → BeginsColumn w w
begins_all w = begins_whole w

pub end_of_begin : (xs w : List Record) → BeginsColumn xs w → IsEnd xs w
end_of_begin xs w b = record { passed = b.passed; whole = b.whole }

-- ---- the first key of a column
not_latest : (x : ℤ) → int_le x latest ≡ true → is_lt (int_cmp latest x) ≡ false
not_latest x e = grind (arith, ints)

-- before the first key of a column stands what is of an earlier column
pub start_before : (a k : Key) → int_le a.timestamp latest ≡ true → is_lt (key_cmp a (column_start k)) ≡ is_lt (column_cmp a k)
unfolding key_cmp column_cmp
start_before a k e = go _
  where
    go : (o : Ordering) → is_lt (ordering_then o (int_cmp latest a.timestamp)) ≡ is_lt o
    go Less = refl
    go Equal = not_latest a.timestamp e
    go Greater = refl

pub from_start : (k : Key) (w : List Record) → HasI64Timestamps w → from_key (column_start k) w ≡ from_column k w
from_start k [] t = refl
from_start k (x ∷ xs) t = λ i. cond (start_before x.key k (t x (inl refl)) i) (from_start k xs (λ u h. t u (inr h)) i) (x ∷ xs)

-- ---- where a layer's seek lands
pub begins_at : (k s : Key) (w v xs : List Record) → s ≡ column_start k → v ≡ w → xs ≡ from_key s w → HasI64Timestamps w → IsRising w → BeginsColumn xs v
begins_at k s w v xs start same is t r = subst (BeginsColumn xs) (sym same) (subst (λ (l : List Record). BeginsColumn l w) (sym (is ∙ ap (λ s. from_key s w) start ∙ from_start k w t)) (begins_column k w r))

pub key_lands : (k s : Key) (a b c d : List Record → Record → Bool) (w v u t xs ys zs : List Record) → s ≡ column_start k → b ≡ a → c ≡ b → d ≡ c → v ≡ w → u ≡ v → t ≡ u → filter (c u) zs ≡ filter (c u) ys → ys ≡ from_key k xs → xs ≡ from_key s w → HasI64Timestamps w → IsRising w → filter (d t) zs ≡ from_key k (filter (a w) w)
key_lands k s a b c d w v u t xs ys zs start ba cb dc vw uv tu e is at m r =
    (λ i. filter (dc i (tu i)) zs) ∙ e ∙ (λ i. filter ((cb ∙ ba) i ((uv ∙ vw) i)) (is i)) ∙ ap (λ l. filter (a w) (from_key k l)) (at ∙ ap (λ s. from_key s w) start ∙ from_start k w m) ∙ ap (filter (a w)) (from_key_column k w) ∙ sym (from_key_filter k (a w) w r)
