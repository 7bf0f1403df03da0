-- What the row index of rising records tells.
use Rattle.std.proofs.Common.{◌≡◌, ◌<◌, ◌≤◌, ◌+◌, ◌-◌, ◌*◌, ◌/◌, ◌%◌, ◌^◌, ℕ, zero, suc, List, [], ◌∷◌, ◌++◌, true, false, sym, ◌∙◌, ap, subst, length, drop, length-take, length-drop, get_or, slice_range, arith}
use Rattle.std.specs.Prelude.{nat_lt, min, max}
use Rattle.std.specs.List.{prefix_len}
use Rattle.std.specs.List.Sorted.{IsNonDecreasing, IsStrictlySortedBy}
use Rattle.std.specs.Ordering.{is_gt}
use Rattle.std.specs.declared.cmp.Ordering.TheVariants.{Less}
use Rattle.std.proofs.lemmas.Bool.Decides.{nat_tests}
use Rattle.std.proofs.Math.ListN.{get_or-append}
use Rattle.std.proofs.Math.Seq.{get_or-append_seam}
use Rattle.std.proofs.lemmas.List.{length-append, get_or-take, get_or-drop}
use Rattle.std.proofs.lemmas.List.Sorted.{IsNonDecreasingBy-take, IsNonDecreasingBy-drop}
use Rattle.std.proofs.lemmas.List.Sums.{prefix_len_is, prefix_len-le-length}
use Rattle.tab_key.specs.Records.{Record}
use Rattle.tab_key.specs.Order.{record_cmp}
use Rattle.tab_key.specs.RowPrefix.{IsRowPrefix}
use Rattle.tab_cells.proofs.Lists.{by_bool}
use Rattle.tab_iter.specs.Lists.{IsRising}
use Rattle.tab_mem.specs.RowIndex.{IsRowIndex}
use Rattle.tab_mem.specs.Numbers.{count_below}
use Rattle.tab_mem.specs.Starts.{is_before, IsPrefixOf}
use Rattle.tab_mem.specs.declared.start.Start.{Start}
use Rattle.tab_mem.proofs.RowOrder.{rows_rise}
use Rattle.tab_mem.proofs.Searched.{below_within, below_first, not_below, none_below}
use Rattle.tab_mem.proofs.Seeking.{blank, all_at, before_earlier, before_later}
use Rattle.tab_mem.proofs.StartPrefixes.{greater_rows}

-- ---- one record more
module _ (ns : List ℕ) (rs : List Record) (r : Record) (h : IsRowIndex ns rs) where
  long : length (rs ++ r ∷ []) ≡ length rs + 1
  long = length-append rs (r ∷ [])

  -- those from before have their records still
  still : (k d : ℕ) (u : Record) → k < length ns → IsRowPrefix (get_or ns k d) (get_or (rs ++ r ∷ []) (16 * k) u).key.row
  still k d u lt =
      let inside : 16 * k < length rs = omega (arith, h.few, lt) in
      subst (λ (v : Record). IsRowPrefix (get_or ns k d) v.key.row) (sym (get_or-append rs (r ∷ []) u (16 * k) inside)) (h.each k d u lt)

  pub not_indexed : (length rs % 16 ≡ 0 → ⊥) → IsRowIndex ns (rs ++ r ∷ [])
  not_indexed other = record {
    all = omega (arith, long, h.all, h.few, other);
    few = omega (arith, long, h.few);
    each = still;
  }

  pub indexed : (p : ℕ) → length rs % 16 ≡ 0 → IsRowPrefix p r.key.row → IsRowIndex (ns ++ p ∷ []) (rs ++ r ∷ [])
  indexed p e own = record {
    all = omega (arith, long, more, h.all);
    few = omega (arith, long, more, full);
    each = each;
  }
    where
      more : length (ns ++ p ∷ []) ≡ length ns + 1
      more = length-append ns (p ∷ [])

      full : 16 * length ns ≡ length rs
      full = omega (arith, h.all, h.few, e)

      each : (k d : ℕ) (u : Record) → k < length (ns ++ p ∷ []) → IsRowPrefix (get_or (ns ++ p ∷ []) k d) (get_or (rs ++ r ∷ []) (16 * k) u).key.row
      each k d u lt = by_bool (nat_lt k (length ns))
          (λ t. let first : k < length ns = grind (arith, nat_tests) in
          subst (λ n. IsRowPrefix n (get_or (rs ++ r ∷ []) (16 * k) u).key.row) (sym (get_or-append ns (p ∷ []) d k first)) (still k d u first))
          (λ f. let le : length ns ≤ k = grind (arith, nat_tests) in
          let last : k ≡ length ns = omega (arith, le, lt, more) in
          let there : 16 * k ≡ length rs = omega (arith, last, full) in
          subst (λ n. IsRowPrefix n (get_or (rs ++ r ∷ []) (16 * k) u).key.row) (sym (ap (λ j. get_or (ns ++ p ∷ []) j d) last ∙ get_or-append_seam ns p [] d))
          (subst (λ (v : Record). IsRowPrefix p v.key.row) (sym (ap (λ j. get_or (rs ++ r ∷ []) j u) there ∙ get_or-append_seam rs r [] u)) own))

-- ---- they rise
pair_rises : (rs : List Record) → IsStrictlySortedBy record_cmp rs → (i j : ℕ) (u : Record) → i < j → j < length rs → record_cmp (get_or rs i u) (get_or rs j u) ≡ Less
unfolding IsStrictlySortedBy
pair_rises [] r i j u lt low = absurd (omega (arith, low))
pair_rises (x ∷ xs) r i zero u lt low = absurd (omega (arith, lt))
pair_rises (x ∷ xs) r zero (suc j) u lt low = all_at (λ y. record_cmp x y ≡ Less) xs r.0 j u (omega (arith, low))
pair_rises (x ∷ xs) r (suc i) (suc j) u lt low = pair_rises xs r.1 i j u (omega (arith, lt)) (omega (arith, low))

pub fronts_rise : (ns : List ℕ) (rs : List Record) → IsRowIndex ns rs → IsRising rs → IsNonDecreasing ns
fronts_rise ns rs h rise i j d le low = by_bool (nat_lt (get_or ns j d) (get_or ns i d))
    (λ t. let over : get_or ns j d < get_or ns i d = grind (arith, nat_tests) in absurd (not_over over))
    (λ f. grind (arith, nat_tests))
  where
    inside : 16 * j < length rs
    inside = omega (arith, h.few, low)

    apart : get_or ns j d < get_or ns i d → i < j
    apart over = by_bool (nat_lt i j)
        (λ t. grind (arith, nat_tests))
        (λ f. let same : i ≡ j = grind (arith, nat_tests) in absurd (let e : get_or ns i d ≡ get_or ns j d = ap (λ k. get_or ns k d) same in omega (arith, e, over)))

    not_over : get_or ns j d < get_or ns i d → ⊥
    not_over over =
        let before : i < j = apart over in
        let less = pair_rises rs rise (16 * i) (16 * j) blank (omega (arith, before)) inside in
        let upto = rows_rise (get_or rs (16 * i) blank) (get_or rs (16 * j) blank) less in
        let more = greater_rows (get_or rs (16 * i) blank).key.row (get_or rs (16 * j) blank).key.row (get_or ns i d) (get_or ns j d) (h.each i d blank (omega (arith, before, low))) (h.each j d blank low) over in
        let bad : true ≡ false = sym (ap is_gt more) ∙ upto in cc

-- ---- how many records stand before a start
module _ (s : Start) (q : ℕ) (ns : List ℕ) (rs : List Record) (h : IsRowIndex ns rs) (rise : IsRising rs) (own : IsPrefixOf s q) where
  -- at least the last one whose front is below the prefix, and those before it
  pub low_count : 16 * count_below q ns ≤ prefix_len (is_before s) rs + 15
  low_count = by_bool (nat_lt 0 (count_below q ns))
      (λ t. let some : 0 < count_below q ns = grind (arith, nat_tests) in go some)
      (λ f. let none : count_below q ns ≡ 0 = grind (arith, nat_tests) in omega (arith, none))
    where
      go : 0 < count_below q ns → 16 * count_below q ns ≤ prefix_len (is_before s) rs + 15
      go some =
          let k = count_below q ns - 1 in
          let within = below_within q ns in
          let low : k < length ns = omega (arith, some, within) in
          let under : get_or ns k 0 < q = below_first q ns k 0 (omega (arith, some)) in
          let there : is_before s (get_or rs (16 * k) blank) ≡ true = own.lower (get_or rs (16 * k) blank) (get_or ns k 0) (h.each k 0 blank low) under in
          let more = before_earlier s rs rise (16 * k) blank (omega (arith, h.few, low)) there in
          omega (arith, some, more)

  -- none from the first one on whose front is above it
  pub high_count : ((k : ℕ) → get_or ns k 0 < 2 ^ 128) → prefix_len (is_before s) rs ≤ 16 * count_below (q + 1) ns
  high_count fits = by_bool (nat_lt (count_below (q + 1) ns) (length ns))
      (λ t. let some : count_below (q + 1) ns < length ns = grind (arith, nat_tests) in go some)
      (λ f. let none : length ns ≤ count_below (q + 1) ns = grind (arith, nat_tests) in let whole = prefix_len-le-length (is_before s) rs in omega (arith, none, whole, h.all))
    where
      go : count_below (q + 1) ns < length ns → prefix_len (is_before s) rs ≤ 16 * count_below (q + 1) ns
      go some =
          let k = count_below (q + 1) ns in
          let over : q + 1 ≤ get_or ns k 0 = not_below (q + 1) ns 0 some in
          let there : is_before s (get_or rs (16 * k) blank) ≡ false = own.higher (get_or rs (16 * k) blank) (get_or ns k 0) (fits k) (h.each k 0 blank some) (omega (arith, over)) in
          before_later s rs (16 * k) blank there (omega (arith, h.few, some))

-- .. also of those of a part of the numbers, of which the records of another part are
pub low_part : (low n below first past : ℕ) → 16 * below ≤ n + 15 → first ≡ low / 16 → 16 * max first (min below past) < max low n + 16
low_part low n below first past a f = omega (arith, a, f)

pub high_part : (high n above first past size count : ℕ) → n ≤ 16 * above → n ≤ count → count ≤ 16 * size → past ≡ min (high / 16 + 1) size → min n high ≤ 16 * max first (min above past)
high_part high n above first past size count a w c p = omega (arith, a, w, c, p)

-- ---- a part of the numbers
pub part_of_rising : (ns : List ℕ) (a b : ℕ) → IsNonDecreasing ns → IsNonDecreasing (slice_range ns a b)
part_of_rising ns a b rise = IsNonDecreasingBy-take (λ n. n) (b - a) (drop a ns) (IsNonDecreasingBy-drop (λ n. n) a ns rise)

pub count_in_part : (q : ℕ) (ns : List ℕ) (a b : ℕ) → IsNonDecreasing ns → a ≤ b → b ≤ length ns → a + count_below q (slice_range ns a b) ≡ max a (min (count_below q ns) b)
count_in_part q ns a b rise le inside = omega (arith, le, prefix_len_is (λ n. nat_lt n q) (slice_range ns a b) k 0 short under over)
  where
    k : ℕ
    k = max a (min (count_below q ns) b) - a

    size : length (slice_range ns a b) ≡ b - a
    size = let l = length-take (b - a) (drop a ns) in let m = length-drop a ns in omega (arith, l, m, le, inside)

    short : k ≤ length (slice_range ns a b)
    short = omega (arith, size, le)

    there : (i : ℕ) → i < b - a → get_or (slice_range ns a b) i 0 ≡ get_or ns (a + i) 0
    there i lt = get_or-take (b - a) (drop a ns) i 0 lt ∙ get_or-drop a ns i 0

    under : (i : ℕ) → i < k → nat_lt (get_or (slice_range ns a b) i 0) q ≡ true
    under i lt =
        let at = there i (omega (arith, lt, le)) in
        let low = below_first q ns (a + i) 0 (omega (arith, lt)) in
        ap (λ n. nat_lt n q) at ∙ (let t : nat_lt (get_or ns (a + i) 0) q ≡ true = grind (arith, nat_tests) in t)

    over : k < length (slice_range ns a b) → nat_lt (get_or (slice_range ns a b) k 0) q ≡ false
    over lt =
        let at = there k (omega (arith, lt, size)) in
        let high = none_below q ns (a + k) 0 rise (omega (arith, lt, size)) (omega (arith, lt, size, inside)) in
        ap (λ n. nat_lt n q) at ∙ (let f : nat_lt (get_or ns (a + k) 0) q ≡ false = grind (arith, nat_tests) in f)
