-- Groups in the order of their rows, class by class.
use Rattle.std.proofs.Common.{◌≡◌, ◌≢◌, ◌⊎◌, inl, inr, ℕ, zero, suc, ◌+◌, ◌-◌, ◌<◌, ◌≤◌, List, [], ◌∷◌, ◌++◌, true, false, refl, sym, ◌∙◌, ap, subst, append_assoc, append-nil, length, take, drop, get_or, min, below_more, arith}
use Rattle.std.specs.Cmp.{IsStrictWeakOrder, tied_itself}
use Rattle.std.specs.Cmp.Lexicographic.{nat_list_cmp_total}
use Rattle.std.specs.List.{AllByRecursion, slice_range}
use Rattle.std.specs.List.Sorted.{IsSortedBy}
use Rattle.std.specs.Ordering.{is_lt, is_eq, ordering_reverse}
use Rattle.std.specs.declared.cmp.Ordering.{Ordering}
use Rattle.std.specs.declared.cmp.Ordering.TheVariants.{Less, Equal, Greater}
use Rattle.std.proofs.lemmas.List.{take_more, take-append-drop, get_or_read, get_or-take, get_or-drop, length-take, length-drop}
use Rattle.std.proofs.lemmas.List.Elements.{All-from_recursion}
use Rattle.std.proofs.lemmas.List.Folds.{drop_split}
use Rattle.std.proofs.lemmas.List.Sorted.{ranks_by, sorted_far}
use mathlib.Core.Bool.{true≢false}
use Rattle.tab_key.specs.Bytes.{bytes_cmp}
use Rattle.tab_key.specs.Records.{Record}
use Rattle.tab_key.specs.RowPrefix.{IsRowPrefix}
use Rattle.tab_key.specs.Sorted.{sorted, IsDistinct, IsIn}
use Rattle.tab_key.proofs.Rising.{all_in, is_greater}
use Rattle.tab_key.proofs.Ties.{bytes_tied}
use Rattle.tab_cells.proofs.Lists.{in_append}
use Rattle.tab_iter.specs.Bags.{flat}
use Rattle.tab_iter.proofs.BagLaws.{apart_left, apart_right}
use Rattle.tab_iter.proofs.ListLaws.{each_in}
use Rattle.tab_mem.specs.Groups.{row_of, IsOfOneRow, HasOneRow, IsClass, row_at, row_before}
use Rattle.tab_mem.proofs.Columned.{lower_row}
use Rattle.tab_mem.proofs.Regrouped.{sorted_apart}
use Rattle.tab_mem.proofs.Spanned.{flat_more}

-- ---- rows
-- it is an order as a sort wants it
pub row_order : IsStrictWeakOrder row_before
row_order = ranks_by nat_list_cmp_total row_of

is_equal : (o : Ordering) → is_eq o ≡ true → o ≡ Equal
is_equal Less e = absurd (true≢false (sym e))
is_equal Equal e = refl
is_equal Greater e = absurd (true≢false (sym e))

pub alike_rows : (a b : List ℕ) → is_eq (bytes_cmp a b) ≡ true → b ≡ a
alike_rows a b e = sym (bytes_tied a b (is_equal (bytes_cmp a b) e))

pub other_rows : (a b : List ℕ) → is_eq (bytes_cmp a b) ≡ false → b ≢ a
other_rows a b f e = true≢false (sym (ap is_eq (ap (bytes_cmp a) e ∙ tied_itself nat_list_cmp_total a)) ∙ f)

-- a row behind another one that isn't below it
less_beyond : (a e z : List ℕ) → is_lt (bytes_cmp e a) ≡ false → e ≢ a → is_lt (bytes_cmp z e) ≡ false → bytes_cmp a z ≡ Less
less_beyond a e z low other high = go (bytes_cmp z e) refl
  where
    first : bytes_cmp a e ≡ Less
    first = nat_list_cmp_total.antisymm a e ∙ ap ordering_reverse (is_greater (bytes_cmp e a) low (λ t. other (bytes_tied e a t)))

    go : (o : Ordering) → bytes_cmp z e ≡ o → bytes_cmp a z ≡ Less
    go Less t = absurd (true≢false (sym (ap is_lt t) ∙ high))
    go Equal t = subst (λ (x : List ℕ). bytes_cmp a x ≡ Less) (sym (bytes_tied z e t)) first
    go Greater t = nat_list_cmp_total.trans a e z first (nat_list_cmp_total.antisymm e z ∙ ap ordering_reverse t)

-- ---- groups
flat_both : (xs ys : List (List Record)) → flat (xs ++ ys) ≡ flat xs ++ flat ys
flat_both [] ys = refl
flat_both (x ∷ xs) ys = ap (λ l. x ++ l) (flat_both xs ys) ∙ sym (append_assoc x (flat xs) (flat ys))

-- the group that a record is of
record IsOf (ws : List (List Record)) (u : Record) : Type 0 where
  pub place : ℕ
  pub inside : place < length ws
  pub within : IsIn (get_or ws place []) u

in_flat : (ws : List (List Record)) (u : Record) → IsIn (flat ws) u → IsOf ws u
in_flat [] u h = absurd h
in_flat (w ∷ ws) u h = go (in_append w (flat ws) u h) (in_flat ws u)
  where
    go : IsIn w u ⊎ IsIn (flat ws) u → (IsIn (flat ws) u → IsOf ws u) → IsOf (w ∷ ws) u
    go (inl k) ih = record { place = 0; inside = omega arith; within = k }
    go (inr k) ih = let o = ih k in record { place = suc o.place; inside = omega (arith, o.inside); within = o.within }

row_in_group : (g : List Record) (u : Record) → IsOfOneRow g → IsIn g u → u.key.row ≡ row_of g
row_in_group g u one h = all_in (λ (v : Record). v.key.row ≡ row_of g) g one u h

pub one_at : (ws : List (List Record)) (k : ℕ) (g : List Record) → k < length ws → g ≡ get_or ws k g → AllByRecursion IsOfOneRow ws → IsOfOneRow g
one_at ws k g lt is a = subst IsOfOneRow (sym is) (All-from_recursion IsOfOneRow ws a k g lt)

pub distinct_at : (ws : List (List Record)) (k : ℕ) (g : List Record) → k < length ws → g ≡ get_or ws k g → IsDistinct (flat ws) → IsDistinct g
distinct_at [] k g lt is d = absurd (omega (arith, lt))
distinct_at (w ∷ ws) zero g lt is d = subst IsDistinct (sym is) (apart_left w (flat ws) d)
distinct_at (w ∷ ws) (suc k) g lt is d = distinct_at ws k g (omega (arith, lt)) is (apart_right w (flat ws) d)

-- one group alone
one_behind : (ws : List (List Record)) (k : ℕ) (g : List Record) → k < length ws → g ≡ get_or ws k g → flat (take (suc zero) (drop k ws)) ≡ g
one_behind [] k g lt is = absurd (omega (arith, lt))
one_behind (w ∷ ws) zero g lt is = append-nil w ∙ sym is
one_behind (w ∷ ws) (suc k) g lt is = one_behind ws k g (omega (arith, lt)) is

pub one_between : (ws : List (List Record)) (at end : ℕ) (g : List Record) → end - at ≡ 1 → at < length ws → g ≡ get_or ws at g → g ≡ flat (slice_range ws at end)
one_between ws at end g one lt is =
    let alone : end - at ≡ suc zero = omega (arith, one) in
    sym (ap (λ n. flat (take n (drop at ws))) alone ∙ one_behind ws at g lt is)

pub flat_next : (ws : List (List Record)) (i : ℕ) (g : List Record) → i < length ws → g ≡ get_or ws i g → flat (take (i + 1) ws) ≡ flat (take i ws) ++ g
flat_next ws i g lt is = ap flat (take_more ws i g lt ∙ ap (λ x. take i ws ++ x ∷ []) (sym is)) ∙ flat_more (take i ws) g

-- ---- a class
pub class_first : (ws : List (List Record)) (at k : ℕ) → k < at + 1 → at ≤ k → row_at ws k ≡ row_at ws at
class_first ws at k lt le = let e : k ≡ at = omega (arith, lt, le) in ap (λ n. row_at ws n) e

pub class_more : (ws : List (List Record)) (at end : ℕ) → ((k : ℕ) → k < end → at ≤ k → row_at ws k ≡ row_at ws at) → row_at ws end ≡ row_at ws at → (k : ℕ) → k < end + 1 → at ≤ k → row_at ws k ≡ row_at ws at
class_more ws at end same next = below_more (λ k. at ≤ k → row_at ws k ≡ row_at ws at) end same (λ _. next)

module _ (ws : List (List Record)) (at end : ℕ) (c : IsClass ws at end) where
  parted : flat (drop at ws) ≡ flat (slice_range ws at end) ++ flat (drop end ws)
  parted = ap flat (drop_split ws at end (omega (arith, c.some))) ∙ flat_both (slice_range ws at end) (drop end ws)

  rest_distinct : IsDistinct (flat ws) → IsDistinct (flat (slice_range ws at end) ++ flat (drop end ws))
  rest_distinct d =
      let all : flat ws ≡ flat (take at ws) ++ flat (drop at ws) = ap flat (sym (take-append-drop at ws)) ∙ flat_both (take at ws) (drop at ws) in
      subst IsDistinct parted (apart_right (flat (take at ws)) (flat (drop at ws)) (subst IsDistinct all d))

  pub class_distinct : IsDistinct (flat ws) → IsDistinct (flat (slice_range ws at end))
  class_distinct d = apart_left (flat (slice_range ws at end)) (flat (drop end ws)) (rest_distinct d)

  module _ (rows : AllByRecursion IsOfOneRow ws) where
    row_there : (k : ℕ) (u : Record) → k < length ws → IsIn (get_or ws k []) u → u.key.row ≡ row_at ws k
    row_there k u lt h = row_in_group (get_or ws k []) u (All-from_recursion IsOfOneRow ws rows k [] lt) h

    -- the records of the class have its row
    in_class : (u : Record) → IsIn (flat (slice_range ws at end)) u → u.key.row ≡ row_at ws at
    in_class u h =
        let o = in_flat (slice_range ws at end) u h in
        let long : length (slice_range ws at end) ≡ min (end - at) (length (drop at ws)) = length-take (end - at) (drop at ws) in
        let few : o.place < end - at = omega (arith, o.inside, long) in
        let there : get_or (slice_range ws at end) o.place [] ≡ get_or ws (at + o.place) [] = get_or-take (end - at) (drop at ws) o.place [] few ∙ get_or-drop at ws o.place [] in
        row_there (at + o.place) u (omega (arith, few, c.inside)) (subst (λ (g : List Record). IsIn g u) there o.within) ∙ c.same (at + o.place) (omega (arith, few)) (omega arith)

    pub class_row : (prefix : ℕ) (g : List Record) → g ≡ get_or ws at g → IsRowPrefix prefix (row_of g) → HasOneRow prefix (flat (slice_range ws at end))
    class_row prefix g is own =
        let lt : at < length ws = omega (arith, c.some, c.inside) in
        let there : row_of g ≡ row_at ws at = ap row_of (get_or_read ws at g lt is []) in
        record { row = row_at ws at; own = subst (IsRowPrefix prefix) there own; same = each_in (λ (u : Record). u.key.row ≡ row_at ws at) (flat (slice_range ws at end)) in_class }

    -- the records behind it have greater ones
    module _ (rising : IsSortedBy row_before ws) where
      beyond : (v : Record) → IsIn (flat (drop end ws)) v → bytes_cmp (row_at ws at) v.key.row ≡ Less
      beyond v h =
          let o = in_flat (drop end ws) v h in
          let low : end + o.place < length ws = omega (arith, o.inside, length-drop end ws) in
          let there : get_or (drop end ws) o.place [] ≡ get_or ws (end + o.place) [] = get_or-drop end ws o.place [] in
          let row : v.key.row ≡ row_at ws (end + o.place) = row_there (end + o.place) v low (subst (λ (g : List Record). IsIn g v) there o.within) in
          let inside : end < length ws = omega (arith, low) in
          let before : bytes_cmp (row_at ws at) (row_at ws (end + o.place)) ≡ Less = less_beyond (row_at ws at) (row_at ws end) (row_at ws (end + o.place))
          (sorted_far row_before row_order ws rising at end [] (omega (arith, c.some)) inside) (c.next inside) (sorted_far row_before row_order ws rising end (end + o.place) [] (omega arith) low) in
          ap (bytes_cmp (row_at ws at)) row ∙ before

      class_sorted : IsDistinct (flat ws) → sorted (flat (drop at ws)) ≡ sorted (flat (slice_range ws at end)) ++ sorted (flat (drop end ws))
      class_sorted d = ap sorted parted ∙ sorted_apart (flat (slice_range ws at end)) (flat (drop end ws)) (rest_distinct d)
          (λ u v h k. lower_row u v (ap (λ (r : List ℕ). bytes_cmp r v.key.row) (in_class u h) ∙ beyond v k))

      -- its records put behind others in their order
      pub class_put : (old now all : List Record) → IsDistinct (flat ws) → now ≡ old ++ sorted (flat (slice_range ws at end)) → old ++ sorted (flat (drop at ws)) ≡ all → now ++ sorted (flat (drop end ws)) ≡ all
      class_put old now all d e f =
          ap (λ l. l ++ sorted (flat (drop end ws))) e
          ∙ append_assoc old (sorted (flat (slice_range ws at end))) (sorted (flat (drop end ws)))
          ∙ ap (λ l. old ++ l) (sym (class_sorted d))
          ∙ f
