-- Where the records from a start on begin.
use Rattle.std.proofs.Common.{◌≡◌, ◌⊎◌, inl, inr, ℕ, zero, suc, ◌+◌, ◌<◌, ◌≤◌, List, [], ◌∷◌, Bool, true, false, cond, not, refl, sym, ◌∙◌, ap, length, take, drop, arith, one-add}
use Rattle.std.specs.Prelude.{filter, pos}
use Rattle.std.specs.List.{AllByRecursion, slice_index_or, prefix_len}
use Rattle.std.specs.List.Sorted.{IsStrictlySortedBy}
use Rattle.std.specs.Ordering.{nat_cmp, is_lt, ordering_then}
use Rattle.std.specs.declared.cmp.Ordering.{Ordering}
use Rattle.std.specs.declared.cmp.Ordering.TheVariants.{Less, Equal, Greater}
use mathlib.Core.Bool.{true≢false}
use Rattle.tab_key.specs.Ranges.{is_above, is_below}
use Rattle.tab_key.specs.declared.key.Kind.TheVariants.{Put}
use Rattle.tab_key.specs.KeyOf.{key_of}
use Rattle.tab_key.specs.Records.{Key, Record}
use Rattle.tab_key.specs.Order.{kind_rank, key_cmp, place_cmp, newer_cmp, record_cmp}
use Rattle.tab_key.proofs.Order.{key_cmp_total}
use Rattle.tab_cells.proofs.Lists.{by_bool}
use Rattle.tab_iter.specs.Lists.{from_key}
use Rattle.tab_mem.specs.Starts.{is_before, from_start}
use Rattle.tab_mem.specs.declared.start.Start.{Start}
use Rattle.tab_mem.specs.declared.start.Start.TheVariants.{AtKey, AtLow, PastHigh}
use Rattle.tab_mem.proofs.RowOrder.{twice, rows_rise, above_more, below_less}

-- ---- what is left after the records before a start
dropped : (v : Bool) (p : Record → Bool) (r : Record) (rs from : List Record) → drop (prefix_len p rs) rs ≡ from → drop (cond v (1 + prefix_len p rs) 0) (r ∷ rs) ≡ cond v from (r ∷ rs)
dropped true p r rs from ih = rw one-add ih
dropped false p r rs from ih = refl

key_drops : (k : Key) (rs : List Record) → drop (prefix_len (λ r. is_lt (key_cmp r.key k)) rs) rs ≡ from_key k rs
key_drops k [] = refl
key_drops k (r ∷ rs) = dropped (is_lt (key_cmp r.key k)) _ r rs (from_key k rs) (key_drops k rs)

-- ---- who stands before a record before the start is before the start
-- what stands before isn't after, by a part of the order that is compared first
abbrev IsUpto : Ordering → Type 0
IsUpto o = (o ≡ Less) ⊎ (o ≡ Equal)

upto_first : (a b : Ordering) → IsUpto (ordering_then a b) → IsUpto a
upto_first Less b u = inl refl
upto_first Equal b u = inr refl
upto_first Greater b u = u

upto_key : (x y : Record) → record_cmp x y ≡ Less → IsUpto (key_cmp x.key y.key)
unfolding place_cmp
upto_key x y less = upto_first (key_cmp x.key y.key) (nat_cmp (kind_rank x.kind) (kind_rank y.kind)) (upto_first (place_cmp x y) (newer_cmp x y) (inl less))

lt_less : (o : Ordering) → is_lt o ≡ true → o ≡ Less
lt_less Less e = refl
lt_less Equal e = absurd (true≢false (sym e))
lt_less Greater e = absurd (true≢false (sym e))

key_down : (x y k : Key) → IsUpto (key_cmp x y) → is_lt (key_cmp y k) ≡ true → is_lt (key_cmp x k) ≡ true
key_down x y k (inl e) b = ap is_lt (key_cmp_total.trans x y k e (lt_less (key_cmp y k) b))
key_down x y k (inr e) b = ap is_lt (key_cmp_total.congr x y k e) ∙ b

pub before_down : (s : Start) (x y : Record) → record_cmp x y ≡ Less → is_before s y ≡ true → is_before s x ≡ true
unfolding is_before
before_down (AtKey k) x y less b = key_down x.key y.key (key_of k) (upto_key x y less) b
before_down (AtLow low) x y less b = by_bool (is_above low.now x.key.row) (λ e. absurd (true≢false (sym b ∙ ap not (above_more low.now x.key.row y.key.row (rows_rise x y less) e)))) (λ e. ap not e)
before_down (PastHigh high) x y less b = below_less high.now x.key.row y.key.row (rows_rise x y less) b

-- ---- what a test that only the first records of a rising list pass keeps, and what it leaves
all_kept : (p q : Record → Bool) → ((x y : Record) → record_cmp x y ≡ Less → p y ≡ true → p x ≡ true) → ((u : Record) → q u ≡ not (p u)) → (x : Record) → p x ≡ false → (ys : List Record) → AllByRecursion (λ y. record_cmp x y ≡ Less) ys → filter q ys ≡ ys
all_kept p q falls turned x never [] a = refl
all_kept p q falls turned x never (y ∷ ys) a =
    let kept : q y ≡ true = by_bool (p y) (λ e. absurd (true≢false (sym (falls x y a.0 e) ∙ never))) (λ e. turned y ∙ ap not e) in
    rw kept (ap (λ ls. y ∷ ls) (all_kept p q falls turned x never ys a.1))

none_kept : (p : Record → Bool) → ((x y : Record) → record_cmp x y ≡ Less → p y ≡ true → p x ≡ true) → (x : Record) → p x ≡ false → (ys : List Record) → AllByRecursion (λ y. record_cmp x y ≡ Less) ys → filter p ys ≡ []
none_kept p falls x never [] a = refl
none_kept p falls x never (y ∷ ys) a =
    let left : p y ≡ false = by_bool (p y) (λ e. absurd (true≢false (sym (falls x y a.0 e) ∙ never))) (λ e. e) in
    rw left (none_kept p falls x never ys a.1)

rest_kept : (p q : Record → Bool) → ((x y : Record) → record_cmp x y ≡ Less → p y ≡ true → p x ≡ true) → ((u : Record) → q u ≡ not (p u)) → (rs : List Record) → IsStrictlySortedBy record_cmp rs → drop (prefix_len p rs) rs ≡ filter q rs
unfolding IsStrictlySortedBy
rest_kept p q falls turned [] r = refl
rest_kept p q falls turned (x ∷ xs) r = by_bool (p x)
    (λ e. rw (e, turned x, e, one-add) (rest_kept p q falls turned xs r.1))
    (λ e. rw (e, turned x, e) (ap (λ ls. x ∷ ls) (sym (all_kept p q falls turned x e xs r.0))))

front_kept : (p : Record → Bool) → ((x y : Record) → record_cmp x y ≡ Less → p y ≡ true → p x ≡ true) → (rs : List Record) → IsStrictlySortedBy record_cmp rs → take (prefix_len p rs) rs ≡ filter p rs
unfolding IsStrictlySortedBy
front_kept p falls [] r = refl
front_kept p falls (x ∷ xs) r = by_bool (p x)
    (λ e. rw (e, one-add) (ap (λ ls. x ∷ ls) (front_kept p falls xs r.1)))
    (λ e. rw e (sym (none_kept p falls x e xs r.0)))

pub start_drops : (s : Start) (rs : List Record) → IsStrictlySortedBy record_cmp rs → drop (prefix_len (is_before s) rs) rs ≡ from_start s rs
unfolding is_before from_start
start_drops (AtKey k) rs r = key_drops (key_of k) rs
start_drops (AtLow low) rs r = rest_kept _ (λ u. is_above low.now u.key.row) (before_down (AtLow low)) (λ u. twice (is_above low.now u.key.row)) rs r
start_drops (PastHigh high) rs r = rest_kept _ (λ u. not (is_below high.now u.key.row)) (before_down (PastHigh high)) (λ u. refl) rs r

pub start_takes : (s : Start) (rs : List Record) → IsStrictlySortedBy record_cmp rs → take (prefix_len (is_before s) rs) rs ≡ filter (is_before s) rs
start_takes s rs r = front_kept (is_before s) (before_down s) rs r

-- ---- one step of the search
-- some record
pub blank : Record
blank = record { key = record { row = []; family = []; qualifier = []; label = []; timestamp = pos 0 }; kind = Put; value = []; seq = 0; idx = 0 }

pub all_at : (P : Record → Type 0) (xs : List Record) → AllByRecursion P xs → (i : ℕ) (d : Record) → i < length xs → P (slice_index_or xs i d)
all_at P [] a i d low = absurd (omega (arith, low))
all_at P (x ∷ xs) a zero d low = a.0
all_at P (x ∷ xs) a (suc i) d low = all_at P xs a.1 i d (omega (arith, low))

-- in rising records, whatever is before the start is among the first of them that are
pub before_earlier : (s : Start) (rs : List Record) → IsStrictlySortedBy record_cmp rs → (i : ℕ) (d : Record) → i < length rs → is_before s (slice_index_or rs i d) ≡ true → i < prefix_len (is_before s) rs
unfolding IsStrictlySortedBy
before_earlier s [] r i d low b = absurd (omega (arith, low))
before_earlier s (x ∷ xs) r i d low b = go (is_before s x) refl i low b (λ j. before_earlier s xs r.1 j d)
  where
    go : (v : Bool) → is_before s x ≡ v → (i : ℕ) → i < length (x ∷ xs) → is_before s (slice_index_or (x ∷ xs) i d) ≡ true → ((j : ℕ) → j < length xs → is_before s (slice_index_or xs j d) ≡ true → j < prefix_len (is_before s) xs) → i < cond v (1 + prefix_len (is_before s) xs) 0
    go true e zero low b ih = omega arith
    go true e (suc j) low b ih = let later : j < prefix_len (is_before s) xs = ih j (omega (arith, low)) b in omega (arith, later)
    go false e zero low b ih = absurd (true≢false (sym b ∙ e))
    go false e (suc j) low b ih = absurd (true≢false (sym (before_down s x (slice_index_or xs j d) (all_at (λ y. record_cmp x y ≡ Less) xs r.0 j d (omega (arith, low))) b) ∙ e))

-- and what isn't, stands behind these
pub before_later : (s : Start) (rs : List Record) (i : ℕ) (d : Record) → is_before s (slice_index_or rs i d) ≡ false → i < length rs → prefix_len (is_before s) rs ≤ i
before_later s [] i d f low = absurd (omega (arith, low))
before_later s (x ∷ xs) i d f low = go (is_before s x) refl i low f (λ j. before_later s xs j d)
  where
    go : (v : Bool) → is_before s x ≡ v → (i : ℕ) → i < length (x ∷ xs) → is_before s (slice_index_or (x ∷ xs) i d) ≡ false → ((j : ℕ) → is_before s (slice_index_or xs j d) ≡ false → j < length xs → prefix_len (is_before s) xs ≤ j) → cond v (1 + prefix_len (is_before s) xs) 0 ≤ i
    go true e zero low f ih = absurd (true≢false (sym e ∙ f))
    go true e (suc j) low f ih = let later : prefix_len (is_before s) xs ≤ j = ih j f (omega (arith, low)) in omega (arith, later)
    go false e i low f ih = omega arith
