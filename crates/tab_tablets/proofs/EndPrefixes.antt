-- The prefixes of end rows, and the place of a row among them.
use Rattle.std.proofs.Common.{◌≡◌, ℕ, zero, suc, ◌+◌, ◌-◌, ◌≤◌, ◌<◌, List, [], ◌∷◌, ◌++◌, Bool, true, false, not, refl, sym, ◌∙◌, ap, subst, length, take, drop, length-take, length-drop, min, get_or, set, slice_range, arith}
use Rattle.std.specs.Prelude.{Option, Some, None, nat_lt}
use Rattle.std.specs.List.{insert}
use Rattle.std.specs.List.Sorted.{IsNonDecreasing, IsPartitionedBy, IsPartitionPoint}
use Rattle.std.specs.Ordering.{nat_cmp}
use Rattle.std.specs.declared.cmp.Ordering.TheVariants.{Less, Greater}
use Rattle.std.proofs.lemmas.Bool.Decides.{nat_tests}
use Rattle.std.proofs.lemmas.List.{take_more, get_or-take, get_or-drop}
use Rattle.std.proofs.lemmas.List.Sorted.{IsNonDecreasingBy-from_all_adjacent}
use Rattle.tab_key.specs.Bytes.{bytes_cmp}
use Rattle.tab_key.specs.RowPrefix.{IsRowPrefix}
use Rattle.tab_key.proofs.RowPrefix.{prefix_orders}
use Rattle.tab_cells.proofs.Lists.{by_bool}
use Rattle.tab_mem.specs.Numbers.{count_below}
use Rattle.tab_mem.proofs.Searched.{below_within, below_first, none_below, below_next}
use Rattle.tab_tablet.specs.Tablets.{Tablet, is_up_to}
use Rattle.tab_tablets.specs.ByRow.{EndsBefore, AreWhole}
use Rattle.tab_tablets.specs.EndPrefixes.{IsEndPrefix, ArePrefixes}
use Rattle.tab_tablets.proofs.Orders.{below_up_to, not_above}
use Rattle.tab_tablets.specs.Places.{IsPlaceOf}
use Rattle.tab_tablets.proofs.EndRows.{parted, found}

-- ---- as many as end rows
pub same_count : (ps : List ℕ) (ts : List Tablet) → ArePrefixes ps ts → length ps ≡ length ts
same_count [] [] h = refl
same_count [] (t ∷ ts) h = absurd h
same_count (p ∷ ps) [] h = absurd h
same_count (p ∷ ps) (t ∷ ts) h = ap suc (same_count ps ts h.1)

-- each at its place
pub prefix_at : (ps : List ℕ) (ts : List Tablet) (k d : ℕ) (e : Tablet) → ArePrefixes ps ts → k < length ts → IsEndPrefix (get_or ps k d) (get_or ts k e).end
prefix_at [] [] k d e h lt = absurd (omega arith)
prefix_at [] (t ∷ ts) k d e h lt = absurd h
prefix_at (p ∷ ps) [] k d e h lt = absurd h
prefix_at (p ∷ ps) (t ∷ ts) zero d e h lt = h.0
prefix_at (p ∷ ps) (t ∷ ts) (suc k) d e h lt = prefix_at ps ts k d e h.1 (omega arith)

-- ---- one more, another one
one_more : (ps : List ℕ) (ts : List Tablet) (p : ℕ) (t : Tablet) → ArePrefixes ps ts → IsEndPrefix p t.end → ArePrefixes (ps ++ p ∷ []) (ts ++ t ∷ [])
one_more [] [] p t h is = (is, tt)
one_more [] (s ∷ ts) p t h is = absurd h
one_more (q ∷ ps) [] p t h is = absurd h
one_more (q ∷ ps) (s ∷ ts) p t h is = (h.0, one_more ps ts p t h.1 is)

pub prefixes_next : (ts : List Tablet) (i : ℕ) (t : Tablet) (end : List ℕ) (p : ℕ) (ps more : List ℕ) → i < length ts → t ≡ get_or ts i t → t.end ≡ Some end → IsRowPrefix p end → more ≡ ps ++ p ∷ []
    → ArePrefixes ps (take i ts) → ArePrefixes more (take (i + 1) ts)
prefixes_next ts i t end p ps more lt is e own grown h =
    subst (λ ss. ArePrefixes more ss) (sym (take_more ts i t lt ∙ ap (λ x. take i ts ++ x ∷ []) (sym is)))
    (subst (λ ns. ArePrefixes ns (take i ts ++ t ∷ [])) (sym grown) (one_more ps (take i ts) p t h (subst (IsEndPrefix p) (sym e) own)))

pub prefixes_put : (ps : List ℕ) (ts : List Tablet) (k : ℕ) (old new : Tablet) → old ≡ get_or ts k old → new.end ≡ old.end → ArePrefixes ps ts → ArePrefixes ps (set ts k new)
prefixes_put [] [] k old new is e h = h
prefixes_put [] (t ∷ ts) k old new is e h = absurd h
prefixes_put (p ∷ ps) [] k old new is e h = absurd h
prefixes_put (p ∷ ps) (t ∷ ts) zero old new is e h = (subst (IsEndPrefix p) (sym (e ∙ ap (λ (s : Tablet). s.end) is)) h.0, h.1)
prefixes_put (p ∷ ps) (t ∷ ts) (suc k) old new is e h = (h.0, prefixes_put ps ts k old new is e h.1)

pub prefixes_insert : (ps : List ℕ) (ts : List Tablet) (k p : ℕ) (t : Tablet) → k ≤ length ts → ArePrefixes ps ts → IsEndPrefix p t.end → ArePrefixes (insert ps k p) (insert ts k t)
prefixes_insert [] [] zero p t le h is = (is, tt)
prefixes_insert [] [] (suc k) p t le h is = absurd (omega arith)
prefixes_insert [] (s ∷ ts) k p t le h is = absurd h
prefixes_insert (q ∷ ps) [] k p t le h is = absurd h
prefixes_insert (q ∷ ps) (s ∷ ts) zero p t le h is = (is, h)
prefixes_insert (q ∷ ps) (s ∷ ts) (suc k) p t le h is = (h.0, prefixes_insert ps ts k p t (omega arith) h.1 is)

-- ---- they rise
higher : (e f : List ℕ) (p q : ℕ) → IsRowPrefix p e → IsRowPrefix q f → bytes_cmp e f ≡ Less → p ≤ q
higher e f p q own next lt = by_bool (nat_lt q p)
    (λ t. let over : nat_cmp p q ≡ Greater = grind (arith, nat_tests) in let no : Greater ≡ Less = prefix_orders e f p q Greater own next over (λ x. cc) ∙ lt in absurd cc)
    (λ f. grind (arith, nat_tests))

next_higher : (e f : Option (List ℕ)) (p q : ℕ) → IsEndPrefix p e → IsEndPrefix q f → EndsBefore e f → p ≤ q
next_higher None f p q own next b = absurd own
next_higher (Some e) None p q own next b = absurd next
next_higher (Some e) (Some f) p q own next b = higher e f p q own next b

adjacent : (ps : List ℕ) (ts : List Tablet) (x : Tablet) → ArePrefixes ps ts → AreWhole (ts ++ x ∷ []) → (k d : ℕ) → k + 1 < length ps → get_or ps k d ≤ get_or ps (k + 1) d
adjacent [] ts x h w k d lt = absurd (omega arith)
adjacent (p ∷ []) ts x h w k d lt = absurd (omega arith)
adjacent (p ∷ q ∷ ps) [] x h w k d lt = absurd h
adjacent (p ∷ q ∷ ps) (t ∷ []) x h w k d lt = absurd h.1
adjacent (p ∷ q ∷ ps) (t ∷ s ∷ ts) x h w zero d lt = next_higher t.end s.end p q h.0 h.1.0 w.0
adjacent (p ∷ q ∷ ps) (t ∷ s ∷ ts) x h w (suc k) d lt =
    let e : suc k + 1 ≡ suc (k + 1) = omega arith in
    subst (λ j. get_or (p ∷ q ∷ ps) (suc k) d ≤ get_or (p ∷ q ∷ ps) j d) (sym e) (adjacent (q ∷ ps) (s ∷ ts) x h.1 w.1 k d (omega arith))

pub prefixes_rise : (ps : List ℕ) (ts : List Tablet) (x : Tablet) → ArePrefixes ps ts → AreWhole (ts ++ x ∷ []) → IsNonDecreasing ps
prefixes_rise ps ts x h w = IsNonDecreasingBy-from_all_adjacent (λ n. n) ps (adjacent ps ts x h w)

-- ---- what a prefix decides
lower_ends_before : (o : Option (List ℕ)) (row : List ℕ) (p q : ℕ) → IsEndPrefix p o → IsRowPrefix q row → p < q → is_up_to o row ≡ false
lower_ends_before None row p q own mine lt = absurd own
lower_ends_before (Some e) row p q own mine lt =
    let less : nat_cmp p q ≡ Less = grind (arith, nat_tests) in
    not_above e row (sym (prefix_orders e row p q Less own mine less (λ x. cc)))

higher_ends_behind : (o : Option (List ℕ)) (row : List ℕ) (p q : ℕ) → IsEndPrefix p o → IsRowPrefix q row → q < p → is_up_to o row ≡ true
higher_ends_behind None row p q own mine lt = refl
higher_ends_behind (Some e) row p q own mine lt =
    let less : nat_cmp q p ≡ Less = grind (arith, nat_tests) in
    below_up_to row e (sym (prefix_orders row e q p Less mine own less (λ x. cc)))

-- ---- those that the prefix doesn't decide
in_range : (ts : List Tablet) (a b k : ℕ) (d : Tablet) → k < b - a → get_or (slice_range ts a b) k d ≡ get_or ts (a + k) d
in_range ts a b k d lt = get_or-take (b - a) (drop a ts) k d lt ∙ get_or-drop a ts k d

long : (ts : List Tablet) (a b : ℕ) → length (slice_range ts a b) ≡ min (b - a) (length ts - a)
long ts a b = length-take (b - a) (drop a ts) ∙ ap (min (b - a)) (length-drop a ts)

-- they lie between two places
module _ (q : ℕ) (ps : List ℕ) (from end : ℕ) (low : from ≡ count_below q ps) (high : end ≡ count_below (q + 1) ps) where
  pub range_order : from ≤ end
  range_order = let n = below_next q ps in omega (arith, n, low, high)

  pub range_inside : (ts : List Tablet) → ArePrefixes ps ts → end ≤ length ts
  range_inside ts h = let within = below_within (q + 1) ps in let same = same_count ps ts h in omega (arith, within, high, same)

module _ (row : List ℕ) where
  -- it isn't up to the end row
  abbrev over : Tablet → Bool
  over t = not (is_up_to t.end row)

  pub parted_range : (ts : List Tablet) (x : Tablet) (a b : ℕ) → AreWhole (ts ++ x ∷ []) → IsPartitionedBy over (slice_range ts a b)
  parted_range ts x a b w i j d le lt h =
      let l = long ts a b in
      ap over (in_range ts a b i d (omega (arith, l))) ∙ parted row ts x w (a + i) (a + j) d (omega arith) (omega (arith, l)) (ap over (sym (in_range ts a b j d (omega (arith, l)))) ∙ h)

  module _ (q : ℕ) (ps : List ℕ) (ts : List Tablet) (mine : IsRowPrefix q row) (h : ArePrefixes ps ts) where
    lower_over : (k : ℕ) (d : Tablet) → k < count_below q ps → over (get_or ts k d) ≡ true
    lower_over k d lt =
        let within = below_within q ps in let same = same_count ps ts h in
        ap not (lower_ends_before (get_or ts k d).end row (get_or ps k 0) q (prefix_at ps ts k 0 d h (omega (arith, within, same))) mine (below_first q ps k 0 lt))

    higher_under : (k : ℕ) (d : Tablet) → IsNonDecreasing ps → count_below (q + 1) ps ≤ k → k < length ts → over (get_or ts k d) ≡ false
    higher_under k d rise le lt =
        let same = same_count ps ts h in let above = none_below (q + 1) ps k 0 rise le (omega (arith, same)) in
        ap not (higher_ends_behind (get_or ts k d).end row (get_or ps k 0) q (prefix_at ps ts k 0 d h lt) mine (omega (arith, above)))

    module _ (from end : ℕ) (low : from ≡ count_below q ps) (high : end ≡ count_below (q + 1) ps) (n : ℕ) (point : IsPartitionPoint (λ t. over t ≡ true) (λ t. over t ≡ false) (slice_range ts from end) n) where
      -- as the range tells
      at : (k : ℕ) (d : Tablet) → from ≤ k → k < end → over (get_or (slice_range ts from end) (k - from) d) ≡ over (get_or ts k d)
      at k d le lt =
          let is : from + (k - from) ≡ k = omega arith in
          ap over (in_range ts from end (k - from) d (omega arith) ∙ ap (λ j. get_or ts j d) is)

      found_range : IsNonDecreasing ps → n ≤ length (slice_range ts from end) → IsPartitionPoint (λ t. over t ≡ true) (λ t. over t ≡ false) ts (from + n)
      found_range rise within = (early, late)
        where
          early : (k : ℕ) (d : Tablet) → 0 ≤ k → k < from + n → over (get_or ts k d) ≡ true
          early k d z lt = by_bool (nat_lt k from)
              (λ e. let before : k < from = grind (arith, nat_tests) in lower_over k d (omega (arith, before, low)))
              (λ e. let ge : from ≤ k = grind (arith, nat_tests) in let l = long ts from end in
              sym (at k d ge (omega (arith, l))) ∙ point.0 (k - from) d (omega arith) (omega arith))

          late : (k : ℕ) (d : Tablet) → from + n ≤ k → k < length ts → over (get_or ts k d) ≡ false
          late k d ge lt = by_bool (nat_lt k end)
              (λ e. let inside : k < end = grind (arith, nat_tests) in let l = long ts from end in
              sym (at k d (omega arith) inside) ∙ point.1 (k - from) d (omega arith) (omega (arith, l)))
              (λ e. let behind : end ≤ k = grind (arith, nat_tests) in higher_under k d rise (omega (arith, behind, high)) lt)

      pub found_place : (x : Tablet) → x.end ≡ None → AreWhole (ts ++ x ∷ []) → n ≤ length (slice_range ts from end) → IsPlaceOf row (ts ++ x ∷ []) (from + n)
      found_place x none w within =
          let l = long ts from end in let same = same_count ps ts h in let inside = below_within q ps in
          found row ts x (from + n) none (omega (arith, l, same, inside, low)) (found_range (prefixes_rise ps ts x h w) within)
