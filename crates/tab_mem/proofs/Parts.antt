-- Parts of a list of records, and the searches in them.
use Rattle.std.proofs.Common.{◌≡◌, inl, inr, ℕ, zero, suc, ◌+◌, ◌<◌, ◌≤◌, max, min, List, [], ◌∷◌, Bool, true, false, cond, ◌&&◌, Some, refl, sym, ◌∙◌, ap, length, take, drop, arith, add-suc}
use Rattle.std.specs.Prelude.{filter}
use Rattle.std.specs.List.{AllByRecursion, prefix_len, slice_index_or}
use Rattle.std.specs.List.Sorted.{IsStrictlySortedBy}
use Rattle.std.specs.declared.cmp.Ordering.TheVariants.{Less}
use Rattle.std.proofs.lemmas.List.{drop-take}
use Rattle.std.proofs.Math.Seq.{drop-nil}
use mathlib.Core.Bool.{true≢false}
use Rattle.tab_key.specs.Records.{Record}
use Rattle.tab_key.specs.Order.{record_cmp}
use Rattle.tab_key.specs.Ranges.{is_above, is_below, is_in_range}
use Rattle.tab_key.specs.declared.range.Bounds.{Bounds}
use Rattle.tab_key.specs.Sorted.{IsIn}
use Rattle.tab_cells.proofs.Lists.{by_bool}
use Rattle.tab_iter.specs.Lists.{first_of, HasI64Timestamps}
use Rattle.tab_mem.specs.Lists.{part, HasShortParts}
use Rattle.tab_mem.specs.Starts.{is_before, from_start}
use Rattle.tab_mem.specs.declared.start.Start.{Start}
use Rattle.tab_mem.proofs.Seeking.{before_down, start_drops, start_takes}

-- what is left after some, and after some more
pub drop_sum : (n m : ℕ) (rs : List Record) → drop (n + m) rs ≡ drop n (drop m rs)
drop_sum n zero rs = ap (λ k. drop k rs) (omega arith)
drop_sum n (suc m) [] = drop-nil (n + suc m) ∙ sym (drop-nil n)
drop_sum n (suc m) (r ∷ rs) = rw add-suc (drop_sum n m rs)

-- ---- what holds of a list holds of a part
all_take : (P : Record → Type 0) (n : ℕ) (rs : List Record) → AllByRecursion P rs → AllByRecursion P (take n rs)
all_take P zero rs a = tt
all_take P (suc n) [] a = tt
all_take P (suc n) (r ∷ rs) a = (a.0, all_take P n rs a.1)

all_drop : (P : Record → Type 0) (n : ℕ) (rs : List Record) → AllByRecursion P rs → AllByRecursion P (drop n rs)
all_drop P zero rs a = a
all_drop P (suc n) [] a = tt
all_drop P (suc n) (r ∷ rs) a = all_drop P n rs a.1

take_rises : (n : ℕ) (rs : List Record) → IsStrictlySortedBy record_cmp rs → IsStrictlySortedBy record_cmp (take n rs)
unfolding IsStrictlySortedBy
take_rises zero rs r = tt
take_rises (suc n) [] r = tt
take_rises (suc n) (x ∷ xs) r = (all_take (λ y. record_cmp x y ≡ Less) n xs r.0, take_rises n xs r.1)

drop_rises : (n : ℕ) (rs : List Record) → IsStrictlySortedBy record_cmp rs → IsStrictlySortedBy record_cmp (drop n rs)
unfolding IsStrictlySortedBy
drop_rises zero rs r = r
drop_rises (suc n) [] r = tt
drop_rises (suc n) (x ∷ xs) r = drop_rises n xs r.1

pub part_rises : (from end : ℕ) (rs : List Record) → IsStrictlySortedBy record_cmp rs → IsStrictlySortedBy record_cmp (part from end rs)
part_rises from end rs r = drop_rises from (take end rs) (take_rises end rs r)

in_take : (n : ℕ) (rs : List Record) (u : Record) → IsIn (take n rs) u → IsIn rs u
in_take zero rs u h = absurd h
in_take (suc n) [] u h = absurd h
in_take (suc n) (r ∷ rs) u (inl e) = inl e
in_take (suc n) (r ∷ rs) u (inr h) = inr (in_take n rs u h)

in_drop : (n : ℕ) (rs : List Record) (u : Record) → IsIn (drop n rs) u → IsIn rs u
in_drop zero rs u h = h
in_drop (suc n) [] u h = absurd h
in_drop (suc n) (r ∷ rs) u h = inr (in_drop n rs u h)

pub part_timestamps : (from end : ℕ) (rs : List Record) → HasI64Timestamps rs → HasI64Timestamps (part from end rs)
part_timestamps from end rs t u h = t u (in_take end rs u (in_drop from (take end rs) u h))

pub part_short : (from end : ℕ) (rs : List Record) → HasShortParts rs → HasShortParts (part from end rs)
part_short from end rs s u h = s u (in_take end rs u (in_drop from (take end rs) u h))

filter_both : (p q : Record → Bool) (rs : List Record) → filter q (filter p rs) ≡ filter (λ u. p u && q u) rs
filter_both p q [] = refl
filter_both p q (r ∷ rs) = go (p r) (filter_both p q rs)
  where
    go : (v : Bool) → filter q (filter p rs) ≡ filter (λ u. p u && q u) rs → filter q (cond v (r ∷ filter p rs) (filter p rs)) ≡ cond (v && q r) (r ∷ filter (λ u. p u && q u) rs) (filter (λ u. p u && q u) rs)
    go true ih = ap (λ ls. cond (q r) (r ∷ ls) ls) ih
    go false ih = ih

-- ---- how many records of a part stand before a start
none_before : (s : Start) (x : Record) → is_before s x ≡ false → (ys : List Record) → AllByRecursion (λ y. record_cmp x y ≡ Less) ys → prefix_len (is_before s) ys ≡ 0
none_before s x never [] a = refl
none_before s x never (y ∷ ys) a =
    let other : is_before s y ≡ false = by_bool (is_before s y) (λ e. absurd (true≢false (sym (before_down s x y a.0 e) ∙ never))) (λ e. e) in
    rw other refl

count_part : (s : Start) (rs : List Record) → IsStrictlySortedBy record_cmp rs → (from end : ℕ) → from ≤ end → end ≤ length rs → prefix_len (is_before s) (part from end rs) + from ≡ max from (min (prefix_len (is_before s) rs) end)
unfolding IsStrictlySortedBy
count_part s [] r zero zero le inside = omega arith
count_part s [] r (suc from) zero le inside = absurd (omega (arith, le))
count_part s [] r from (suc end) le inside = absurd (omega (arith, inside))
count_part s (x ∷ xs) r zero zero le inside = omega arith
count_part s (x ∷ xs) r (suc from) zero le inside = absurd (omega (arith, le))
count_part s (x ∷ xs) r zero (suc end) le inside = go (is_before s x) (count_part s xs r.1 zero end (omega arith) (omega (arith, inside)))
  where
    go : (v : Bool) → prefix_len (is_before s) (take end xs) + 0 ≡ max 0 (min (prefix_len (is_before s) xs) end) → cond v (1 + prefix_len (is_before s) (take end xs)) 0 + 0 ≡ max 0 (min (cond v (1 + prefix_len (is_before s) xs) 0) (suc end))
    go true ih = omega (arith, ih)
    go false ih = omega arith
count_part s (x ∷ xs) r (suc from) (suc end) le inside = go (is_before s x) refl (count_part s xs r.1 from end (omega (arith, le)) (omega (arith, inside)))
  where
    go : (v : Bool) → is_before s x ≡ v → prefix_len (is_before s) (part from end xs) + from ≡ max from (min (prefix_len (is_before s) xs) end) → prefix_len (is_before s) (part from end xs) + suc from ≡ max (suc from) (min (cond v (1 + prefix_len (is_before s) xs) 0) (suc end))
    go true e ih = omega (arith, ih)
    go false e ih =
        let none : prefix_len (is_before s) (part from end xs) ≡ 0 = none_before s x e (part from end xs) (all_drop (λ y. record_cmp x y ≡ Less) from (take end xs) (all_take (λ y. record_cmp x y ≡ Less) end xs r.0)) in
        omega (arith, none)

-- the records of a part from the start on are a part
pub part_from_start : (s : Start) (rs : List Record) → IsStrictlySortedBy record_cmp rs → (from end at : ℕ) → from ≤ end → end ≤ length rs → at ≡ max from (min (prefix_len (is_before s) rs) end) → part at end rs ≡ from_start s (part from end rs)
part_from_start s rs r from end at le inside e =
    ap (λ k. drop k (take end rs)) (e ∙ sym (count_part s rs r from end le inside))
    ∙ drop_sum (prefix_len (is_before s) (part from end rs)) from (take end rs)
    ∙ start_drops s (part from end rs) (part_rises from end rs r)

take_less : (n m : ℕ) (rs : List Record) → n ≤ m → take n (take m rs) ≡ take n rs
take_less zero m rs le = refl
take_less (suc n) zero rs le = absurd (omega (arith, le))
take_less (suc n) (suc m) [] le = refl
take_less (suc n) (suc m) (r ∷ rs) le = ap (λ ls. r ∷ ls) (take_less n m rs (omega (arith, le)))

-- and so are those before the start
pub part_before_start : (s : Start) (rs : List Record) → IsStrictlySortedBy record_cmp rs → (from end at : ℕ) → from ≤ end → end ≤ length rs → at ≡ max from (min (prefix_len (is_before s) rs) end) → part from at rs ≡ filter (is_before s) (part from end rs)
part_before_start s rs r from end at le inside e =
    let n = prefix_len (is_before s) (part from end rs) in
    let less : at ≤ end = omega (arith, e) in
    let sum : at ≡ from + n = omega (arith, e, count_part s rs r from end le inside) in
    ap (drop from) (sym (take_less at end rs less))
    ∙ ap (λ k. drop from (take k (take end rs))) sum
    ∙ drop-take from n (take end rs)
    ∙ start_takes s (part from end rs) (part_rises from end rs r)

-- the rows of a part that lie in bounds, first by the low end and then by the high one
pub part_in_rows : (bounds : Bounds) (rs : List Record) (first past : ℕ) (from end : ℕ) → part first end rs ≡ filter (λ u. is_above bounds.low u.key.row) (part from end rs) → part first past rs ≡ filter (λ u. is_below bounds.high u.key.row) (part first end rs) → part first past rs ≡ filter (λ u. is_in_range bounds u.key.row) (part from end rs)
part_in_rows bounds rs first past from end e f = f ∙ ap (filter (λ u. is_below bounds.high u.key.row)) e ∙ filter_both (λ u. is_above bounds.low u.key.row) (λ u. is_below bounds.high u.key.row) (part from end rs)

-- ---- the first record of a part
pub top_of_part : (rs : List Record) (at end : ℕ) (u : Record) → at < end → end ≤ length rs → u ≡ slice_index_or rs at u → Some u ≡ first_of (part at end rs)
top_of_part [] at zero u lt le e = absurd (omega (arith, lt))
top_of_part [] at (suc end) u lt le e = absurd (omega (arith, le))
top_of_part (r ∷ rs) at zero u lt le e = absurd (omega (arith, lt))
top_of_part (r ∷ rs) zero (suc end) u lt le e = ap Some e
top_of_part (r ∷ rs) (suc at) (suc end) u lt le e = top_of_part rs at end u (omega (arith, lt)) (omega (arith, le)) e
