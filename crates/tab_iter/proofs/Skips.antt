-- A seek past a record that was held back, and past those behind it that can't pass, loses nothing.
use Rattle.std.proofs.Common.{◌≡◌, inl, inr, suc, ◌<◌, ◌≤◌, List, [], ◌∷◌, ◌++◌, Bool, true, false, cond, refl, sym, ◌∙◌, ap, subst, length, arith, filter}
use Rattle.std.specs.Prelude.{Some}
use Rattle.std.specs.Ordering.{is_lt, is_gt}
use Rattle.std.specs.declared.cmp.Ordering.{Ordering}
use Rattle.std.specs.declared.cmp.Ordering.TheVariants.{Less, Equal, Greater}
use mathlib.Core.Bool.{true≢false}
use Rattle.tab_key.specs.Order.{column_cmp, record_cmp}
use Rattle.tab_key.proofs.Order.{column_cmp_total}
use Rattle.tab_key.specs.Records.{Key, Record}
use Rattle.tab_key.specs.Sorted.{IsIn}
use Rattle.tab_key.proofs.Rising.{is_less}
use Rattle.tab_cells.proofs.Lists.{by_bool, in_right}
use Rattle.tab_iter.specs.Lists.{first_of, tail, is_settled, from_key, from_column, IsRising, HasI64Timestamps, column_start, IsEnd}
use Rattle.tab_iter.proofs.ListLaws.{first_less, later_rises, column_upto, from_start}

-- in a rising list what stands before a record is less
before_first : (ps : List Record) (r : Record) (rs : List Record) → IsRising (ps ++ r ∷ rs) → (p : Record) → IsIn ps p → record_cmp p r ≡ Less
before_first [] r rs up p h = absurd h
before_first (x ∷ ps) r rs up p (inl e) = subst (λ z. record_cmp z r ≡ Less) e (first_less x (ps ++ r ∷ rs) up r (in_right ps (r ∷ rs) r (inl refl)))
before_first (x ∷ ps) r rs up p (inr h) = before_first ps r rs (later_rises x (ps ++ r ∷ rs) up) p h

-- a column up to one that stands before k stands before k
pub before_too : (a b k : Key) → is_gt (column_cmp a b) ≡ false → column_cmp b k ≡ Less → is_lt (column_cmp a k) ≡ true
before_too a b k g e = go (column_cmp a b) refl g
  where
    go : (o : Ordering) → column_cmp a b ≡ o → is_gt o ≡ false → is_lt (column_cmp a k) ≡ true
    go Less s g = ap is_lt (column_cmp_total.trans a b k s e)
    go Equal s g = ap is_lt (column_cmp_total.congr a b k s ∙ e)
    go Greater s g = absurd (true≢false g)

past_front : (k : Key) (ps xs : List Record) → ((p : Record) → IsIn ps p → is_lt (column_cmp p.key k) ≡ true) → from_column k (ps ++ xs) ≡ from_column k xs
past_front k [] xs f = refl
past_front k (p ∷ ps) xs f = ap (λ v. cond v (from_column k (ps ++ xs)) (p ∷ ps ++ xs)) (f p (inl refl)) ∙ past_front k ps xs (λ q h. f q (inr h))

past_held : (k : Key) (r : Record) (rs w : List Record) → IsRising w → IsEnd (r ∷ rs) w → column_cmp r.key k ≡ Less → from_column k w ≡ from_column k rs
past_held k r rs w up end e =
    ap (from_column k) (sym end.whole)
    ∙ past_front k end.passed (r ∷ rs) (λ p h. before_too p.key r.key k (column_upto p r (before_first end.passed r rs (subst IsRising (sym end.whole) up) p h)) e)
    ∙ ap (λ v. cond v (from_column k rs) (r ∷ rs)) (ap is_lt e)

-- what doesn't pass may be left out
idle_filter : (p : Record → Bool) (k : Key) (xs : List Record) → ((u : Record) → IsIn xs u → column_cmp u.key k ≡ Less → p u ≡ false) → filter p (from_column k xs) ≡ filter p xs
idle_filter p k [] f = refl
idle_filter p k (x ∷ xs) f = by_bool (is_lt (column_cmp x.key k)) (before (idle_filter p k xs (λ u h. f u (inr h)))) (λ e. ap (λ v. filter p (cond v (from_column k xs) (x ∷ xs))) e)
  where
    before : filter p (from_column k xs) ≡ filter p xs → is_lt (column_cmp x.key k) ≡ true → filter p (from_column k (x ∷ xs)) ≡ filter p (x ∷ xs)
    before ih e = ap (λ v. filter p (cond v (from_column k xs) (x ∷ xs))) e ∙ ih ∙ ap (λ v. cond v (x ∷ filter p xs) (filter p xs)) (sym (f x (inl refl) (is_less (column_cmp x.key k) e)))

shorter : (k : Key) (xs : List Record) → length (from_column k xs) ≤ length xs
shorter k [] = omega arith
shorter k (x ∷ xs) = go (is_lt (column_cmp x.key k)) (shorter k xs)
  where
    go : (v : Bool) → length (from_column k xs) ≤ length xs → length (cond v (from_column k xs) (x ∷ xs)) ≤ suc (length xs)
    go true h = omega (arith, h)
    go false h = omega arith

-- ---- a seek from the held record on
module _ (k s : Key) (r : Record) (rs w now : List Record) (start : s ≡ column_start k) (lands : now ≡ from_key s w) (t : HasI64Timestamps w) (up : IsRising w) (end : IsEnd (r ∷ rs) w) (ahead : column_cmp r.key k ≡ Less) where
  lands_past : now ≡ from_column k rs
  lands_past = lands ∙ ap (λ z. from_key z w) start ∙ from_start k w t ∙ past_held k r rs w up end ahead

  pub lands_same : (p : Record → Bool) → p r ≡ false → ((u : Record) → IsIn rs u → column_cmp u.key k ≡ Less → p u ≡ false) → filter p now ≡ filter p (r ∷ rs)
  lands_same p held idle = ap (filter p) lands_past ∙ idle_filter p k rs idle ∙ ap (λ v. cond v (r ∷ filter p rs) (filter p rs)) (sym held)

  pub lands_shorter : length now < suc (length rs)
  lands_shorter = let h : length (from_column k rs) ≤ length rs = shorter k rs in let e : length now ≡ length (from_column k rs) = ap length lands_past in omega (arith, h, e)

-- the same, by what a source has left and its top
module _ (p : Record → Bool) (k s : Key) (w now : List Record) (r : Record) (start : s ≡ column_start k) (lands : now ≡ from_key s w) (t : HasI64Timestamps w) (up : IsRising w) (ahead : column_cmp r.key k ≡ Less) where
  pub leaps_same : (xs : List Record) → Some r ≡ first_of xs → IsEnd xs w → is_settled p xs ≡ false → (IsEnd (r ∷ tail xs) w → p r ≡ false → (u : Record) → IsIn (tail xs) u → column_cmp u.key k ≡ Less → p u ≡ false) → filter p now ≡ filter p xs
  leaps_same [] e end held idle = absurd (true≢false held)
  leaps_same (x ∷ rs) e end held idle =
      let is : r ≡ x = cc in
      let end_r = subst (λ y. IsEnd (y ∷ rs) w) (sym is) end in
      let held_r = ap p is ∙ held in
      lands_same k s r rs w now start lands t up end_r ahead p held_r (idle end_r held_r) ∙ ap (λ y. filter p (y ∷ rs)) is

  pub leaps_shorter : (xs : List Record) → Some r ≡ first_of xs → IsEnd xs w → is_settled p xs ≡ false → length now < length xs
  leaps_shorter [] e end held = absurd (true≢false held)
  leaps_shorter (x ∷ rs) e end held =
      let is : r ≡ x = cc in
      lands_shorter k s r rs w now start lands t up (subst (λ y. IsEnd (y ∷ rs) w) (sym is) end) ahead
