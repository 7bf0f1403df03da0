-- Groups in a body, and how far they reach.
use Rattle.std.proofs.Common.{◌≡◌, ℕ, zero, suc, ◌+◌, ◌-◌, ◌*◌, ◌<◌, ◌≤◌, List, [], ◌∷◌, ◌++◌, cond, refl, sym, ◌∙◌, ap, subst, length, take, drop, arith, append_assoc, append-nil}
use Rattle.std.specs.List.{AllByRecursion, slice_range}
use Rattle.std.proofs.Math.Seq.{take-append-add}
use Rattle.std.proofs.lemmas.Bool.{lt-ltb, le-ltb}
use Rattle.std.proofs.lemmas.List.{length-take-le, length-drop}
use Rattle.std.proofs.lemmas.List.Folds.{drop_split}
use Rattle.tab_key.specs.Encoding.{span_at, record_at, records_at, places_from, end_from, IsAt, AreAt}
use Rattle.tab_key.specs.Records.{Record}
use Rattle.tab_key.specs.RowPrefix.{IsRowPrefix}
use Rattle.tab_key.proofs.Each.{each_append}
use Rattle.tab_key.proofs.Sequence.{many_fit}
use Rattle.tab_key.proofs.Windows.{ends_behind}
use Rattle.tab_iter.specs.Bags.{flat}
use Rattle.tab_mem.specs.Groups.{count_from, left_from, count_in, row_of, HaveRow, IsOfOneRow, IsGroup, IsRowSpan}
use Rattle.tab_mem.specs.Lists.{IsFilled, IsOwn}
use Rattle.tab_mem.specs.Parting.{records_in}
use Rattle.tab_mem.proofs.Filled.{count_is, first_at, rest_at, first_of_them}
use Rattle.tab_mem.proofs.Moved.{moved_filled, moved_records}

-- ---- how many records fill bytes
counted : (bytes : List ℕ) (p n most : ℕ) → end_from bytes p n ≡ length bytes → n ≤ most → count_from bytes p most ≡ n
unfolding count_from
counted bytes p zero zero e le = refl
counted bytes p zero (suc m) e le = ap (λ v. cond v (suc (count_from bytes (span_at bytes p).end m)) 0) (le-ltb p (length bytes) (omega (arith, e)))
counted bytes p (suc n) zero e le = absurd (omega (arith, le))
counted bytes p (suc n) (suc m) e le =
    let fit : p + 41 * suc n ≤ length bytes = subst (λ q. p + 41 * suc n ≤ q) e (many_fit bytes p (suc n)) in
    ap (λ v. cond v (suc (count_from bytes (span_at bytes p).end m)) 0) (lt-ltb p (length bytes) (omega (arith, fit)))
    ∙ ap suc (counted bytes (span_at bytes p).end n m e (omega (arith, le)))

left_is : (bytes : List ℕ) (p n : ℕ) → end_from bytes p n ≡ length bytes → left_from bytes p ≡ n
left_is bytes p n e =
    let fit : p + 41 * n ≤ length bytes = subst (λ q. p + 41 * n ≤ q) e (many_fit bytes p n) in
    counted bytes p n (length bytes) e (omega (arith, fit))

pub count_filled : (bytes : List ℕ) (n : ℕ) → IsFilled bytes n → count_in bytes ≡ n
count_filled bytes n f = left_is bytes 0 n f.ends

some_from : (bytes : List ℕ) (p n : ℕ) → end_from bytes p n ≡ length bytes → p < length bytes → n ≡ suc (left_from bytes (span_at bytes p).end)
some_from bytes p zero e lt = absurd (omega (arith, e, lt))
some_from bytes p (suc n) e lt = ap suc (sym (left_is bytes (span_at bytes p).end n e))

-- .. from a place on
module _ (bytes : List ℕ) (p : ℕ) (e : end_from bytes p (left_from bytes p) ≡ length bytes) where
  pub none_left : length bytes ≤ p → left_from bytes p ≡ 0
  none_left le =
      let fit : p + 41 * left_from bytes p ≤ length bytes = subst (λ q. p + 41 * left_from bytes p ≤ q) e (many_fit bytes p (left_from bytes p)) in
      omega (arith, fit, le)

  pub some_left : p < length bytes → left_from bytes p ≡ suc (left_from bytes (span_at bytes p).end)
  some_left lt = some_from bytes p (left_from bytes p) e lt

  pub next_ends : p < length bytes → end_from bytes (span_at bytes p).end (left_from bytes (span_at bytes p).end) ≡ length bytes
  next_ends lt = sym (ap (end_from bytes p) (some_left lt)) ∙ e

-- ---- a group's bytes
module _ (bytes : List ℕ) (count : ℕ) (some : 0 < count) where
  more : count ≡ suc (count - 1)
  more = omega (arith, some)

  pub first_there : AreAt bytes (places_from bytes 0 count) → IsAt bytes 0
  first_there w = first_at bytes 0 count (count - 1) more w

  row_is : row_of (records_in bytes count) ≡ (record_at bytes 0).key.row
  row_is = ap row_of (first_of_them bytes 0 count (count - 1) more)

module _ (prefix : ℕ) (bytes : List ℕ) (count : ℕ) (us : List Record) (g : IsGroup prefix bytes count) (e : records_in bytes count ≡ us) where
  group_count : count ≡ length us
  group_count = sym (count_is bytes count) ∙ ap length e

  pub group_single : (span_at bytes 0).end ≡ length bytes → length us ≡ 1
  group_single ends =
      let k = count - 1 in
      let whole : end_from bytes (span_at bytes 0).end k ≡ length bytes = sym (ap (end_from bytes 0) (more bytes count g.some)) ∙ g.filled.ends in
      let fit : (span_at bytes 0).end + 41 * k ≤ length bytes = subst (λ q. (span_at bytes 0).end + 41 * k ≤ q) whole (many_fit bytes (span_at bytes 0).end k) in
      omega (arith, group_count, g.some, fit, ends)

  pub group_first : (record_at bytes 0).key.row ≡ row_of us
  group_first = sym (row_is bytes count g.some) ∙ ap row_of e

  pub group_prefix : IsRowPrefix prefix (row_of us)
  group_prefix = subst (IsRowPrefix prefix) group_first g.row

  -- where there is but one record
  module _ (alone : length us ≡ 1) where
    one : count ≡ suc zero
    one = omega (arith, group_count, alone)

    pub only_own : IsOwn prefix bytes
    only_own =
        let filled : IsFilled bytes (suc zero) = subst (IsFilled bytes) one g.filled in
        record { at = filled.at.0; ends = filled.ends; row = g.row; timestamp = g.timestamp }

    pub only_record : us ≡ record_at bytes 0 ∷ []
    only_record = sym e ∙ first_of_them bytes 0 count zero one

-- ---- how far the first records reach that have one row
slice_joined : {X : Type 0} (xs : List X) (a m b : ℕ) → a ≤ m → m ≤ b → b ≤ length xs → slice_range xs a b ≡ slice_range xs a m ++ slice_range xs m b
slice_joined xs a m b p q r =
    let front = slice_range xs a m in
    let size : length front ≡ m - a = length-take-le (m - a) (drop a xs) (omega (arith, length-drop a xs)) in
    let amount : b - a ≡ length front + (b - m) = omega (arith, size) in
    ap (take (b - a)) (drop_split xs a m p) ∙ ap (λ n. take n (front ++ drop m xs)) amount ∙ take-append-add front (drop m xs) (b - m)

module _ (body : List ℕ) (p left : ℕ) where
  -- the first of them
  pub span_first : AreAt body (places_from body p left) → 0 < left → IsRowSpan body p left (span_at body p).end 1
  span_first w some =
      let k = left - 1 in
      let more : left ≡ suc k = omega (arith, some) in
      let there : IsAt body p = first_at body p left k more w in
      let e = (span_at body p).end in
      let none : IsFilled [] 0 = record { at = tt; ends = refl } in
      let alone : records_in (slice_range body p e) 1 ≡ record_at body p ∷ [] = moved_records body (slice_range body p e) [] p e 0 there refl refl none in
      record {
        some = omega arith;
        few = omega (arith, some);
        order = ends_behind body p;
        inside = there.within.whole;
        filled = moved_filled body (slice_range body p e) [] p e 0 there refl refl none;
        same = subst (HaveRow (record_at body p).key.row) (sym alone) (refl, tt);
        rest = rest_at body p left k more w;
        whole = ap (λ l. l ++ records_at body (places_from body e k)) alone ∙ sym (first_of_them body p left k more);
      }

  module _ (e n : ℕ) (s : IsRowSpan body p left e n) (lt : n < left) where
    more_left : left - n ≡ suc (left - (n + 1))
    more_left = omega (arith, lt)

    -- where the next one lies
    pub span_next : IsAt body e
    span_next = first_at body e (left - n) (left - (n + 1)) more_left s.rest

    -- .. which has that row too
    pub span_more : (next : ℕ) → next ≡ (span_at body e).end → (record_at body e).key.row ≡ (record_at body p).key.row → IsRowSpan body p left next (n + 1)
    span_more next is alike =
        let left_then = left - (n + 1) in
        let old = slice_range body p e in
        let new = slice_range body p next in
        let end : next ≤ length body = omega (arith, is, span_next.within.whole) in
        let joined : new ≡ old ++ slice_range body e next = slice_joined body p e next s.order (omega (arith, is, ends_behind body e)) end in
        let records : records_in new (n + 1) ≡ records_in old n ++ record_at body e ∷ [] = moved_records body new old e next n span_next is joined s.filled in
        let behind : records_at body (places_from body e (left - n)) ≡ record_at body e ∷ records_at body (places_from body next left_then) = first_of_them body e (left - n) left_then more_left ∙ ap (λ q. record_at body e ∷ records_at body (places_from body q left_then)) (sym is) in
        record {
          some = omega arith;
          few = omega (arith, lt);
          order = omega (arith, s.order, is, ends_behind body e);
          inside = end;
          filled = moved_filled body new old e next n span_next is joined s.filled;
          same = subst (HaveRow (record_at body p).key.row) (sym records) (each_append (λ (u : Record). u.key.row ≡ (record_at body p).key.row) (records_in old n) (record_at body e ∷ []) s.same (alike, tt));
          rest = subst (λ q. AreAt body (places_from body q left_then)) (sym is) (rest_at body e (left - n) left_then more_left s.rest);
          whole =
              ap (λ l. l ++ records_at body (places_from body next left_then)) records
              ∙ append_assoc (records_in old n) (record_at body e ∷ []) (records_at body (places_from body next left_then))
              ∙ ap (λ l. records_in old n ++ l) (sym behind)
              ∙ s.whole;
        }

-- ---- groups, one after another
pub flat_more : (ws : List (List Record)) (g : List Record) → flat (ws ++ g ∷ []) ≡ flat ws ++ g
flat_more [] g = append-nil g
flat_more (w ∷ ws) g = ap (λ l. w ++ l) (flat_more ws g) ∙ sym (append_assoc w (flat ws) g)

-- the first of those that are left are put behind the others
pub grouped_one : (ws now : List (List Record)) (g rest left all : List Record) → now ≡ ws ++ g ∷ [] → g ++ rest ≡ left → flat ws ++ left ≡ all → flat now ++ rest ≡ all
grouped_one ws now g rest left all e f h =
    ap (λ x. flat x ++ rest) e
    ∙ ap (λ l. l ++ rest) (flat_more ws g)
    ∙ append_assoc (flat ws) g rest
    ∙ ap (λ l. flat ws ++ l) f
    ∙ h

pub rows_more : (ws now : List (List Record)) (g : List Record) → now ≡ ws ++ g ∷ [] → IsOfOneRow g → AllByRecursion IsOfOneRow ws → AllByRecursion IsOfOneRow now
rows_more ws now g e one a = subst (AllByRecursion IsOfOneRow) (sym e) (each_append IsOfOneRow ws (g ∷ []) a (one, tt))

-- when none is left
pub grouped_all : (ws : List (List Record)) (left all : List Record) → left ≡ [] → flat ws ++ left ≡ all → flat ws ≡ all
grouped_all ws left all none h = sym (append-nil (flat ws)) ∙ ap (λ l. flat ws ++ l) (sym none) ∙ h
