-- Rows in order, each as often as it comes: their places, and what is left of them after a cut.
use Rattle.std.proofs.Common.{◌≡◌, ℕ, zero, suc, ◌+◌, ◌-◌, ◌/◌, ◌<◌, ◌≤◌, List, [], ◌∷◌, Bool, true, false, cond, not, Some, None, refl, sym, ◌∙◌, ap, subst, length, get_or, arith}
use Rattle.std.specs.Prelude.{filter, slice_get, bytes_eq}
use Rattle.std.specs.List.{AllByRecursion}
use Rattle.std.specs.Ordering.{is_lt, is_le}
use Rattle.std.specs.Cmp.Lexicographic.{nat_list_cmp_total}
use Rattle.std.specs.declared.cmp.Ordering.{Ordering}
use Rattle.std.specs.declared.cmp.Ordering.TheVariants.{Less, Equal, Greater}
use Rattle.std.proofs.lemmas.Cmp.{tied_itself}
use Rattle.std.proofs.lemmas.Option.{slice_get-get_or, slice_get_within}
use Rattle.std.proofs.lemmas.Slice.Eq.{bytes_eq-Decides}
use mathlib.Core.Bool.{true≢false}
use Rattle.tab_key.specs.Bytes.{bytes_cmp}
use Rattle.tab_key.specs.declared.range.Bound.TheVariants.{Inclusive, Exclusive}
use Rattle.tab_key.proofs.Ties.{bytes_tied}
use Rattle.tab_cells.proofs.Lists.{by_bool}
use Rattle.tab_mem.proofs.RowOrder.{IsUpto, below_less}
use Rattle.tab_tablet.specs.Splitting.{last_row, below_greatest, middle_row}
use Rattle.tab_tablet.proofs.Parted.{some_is}

-- none stands above one after it
abbrev pub IsUpward : List (List ℕ) → Type 0
IsUpward [] = Unit {0}
IsUpward (r ∷ rs) = AllByRecursion (IsUpto r) rs × IsUpward rs

-- how many are below this row, and how many are up to it
abbrev pub below : List ℕ → List (List ℕ) → ℕ
below r rows = length (filter (λ s. is_lt (bytes_cmp s r)) rows)

abbrev pub upto : List ℕ → List (List ℕ) → ℕ
upto r rows = length (filter (λ s. is_le (bytes_cmp s r)) rows)

-- ---- a test that a row passes where a later one does
module _ (p : List ℕ → Bool) (falls : (a b : List ℕ) → IsUpto a b → p b ≡ true → p a ≡ true) where
  fails_after : (a b : List ℕ) → p a ≡ false → IsUpto a b → p b ≡ false
  fails_after a b e u = by_bool (p b) (λ t. absurd (true≢false (sym (falls a b u t) ∙ e))) (λ f. f)

  none_pass : (x : List ℕ) → p x ≡ false → (rows : List (List ℕ)) → AllByRecursion (IsUpto x) rows → filter p rows ≡ []
  none_pass x e [] a = refl
  none_pass x e (y ∷ ys) a = let left : p y ≡ false = fails_after x y e a.0 in rw left (none_pass x e ys a.1)

  all_stay : (x : List ℕ) → p x ≡ false → (rows : List (List ℕ)) → AllByRecursion (IsUpto x) rows → filter (λ s. not (p s)) rows ≡ rows
  all_stay x e [] a = refl
  all_stay x e (y ∷ ys) a = let left : p y ≡ false = fails_after x y e a.0 in rw left (ap (λ l. y ∷ l) (all_stay x e ys a.1))

  -- those that pass stand in front
  pub in_front : (rows : List (List ℕ)) (n : ℕ) → IsUpward rows → n < length (filter p rows) → slice_get rows n ≡ slice_get (filter p rows) n
  in_front [] n up lt = refl
  in_front (x ∷ xs) n up lt = go (p x) refl n lt (λ k l. in_front xs k up.1 l)
    where
      go : (v : Bool) → p x ≡ v → (k : ℕ) → k < length (cond v (x ∷ filter p xs) (filter p xs)) → ((j : ℕ) → j < length (filter p xs) → slice_get xs j ≡ slice_get (filter p xs) j) → slice_get (x ∷ xs) k ≡ slice_get (cond v (x ∷ filter p xs) (filter p xs)) k
      go true e zero l ih = refl
      go true e (suc j) l ih = ih j (omega (arith, l))
      go false e k l ih = absurd (omega (arith, l, ap length (none_pass x e xs up.0)))

  -- the others stand behind them
  pub behind : (rows : List (List ℕ)) (n k : ℕ) → IsUpward rows → n ≡ length (filter p rows) + k → slice_get rows n ≡ slice_get (filter (λ s. not (p s)) rows) k
  behind [] n k up e = refl
  behind (x ∷ xs) n k up e = go (p x) refl n e (λ j f. behind xs j k up.1 f)
    where
      go : (v : Bool) → p x ≡ v → (m : ℕ) → m ≡ length (cond v (x ∷ filter p xs) (filter p xs)) + k → ((j : ℕ) → j ≡ length (filter p xs) + k → slice_get xs j ≡ slice_get (filter (λ s. not (p s)) xs) k) → slice_get (x ∷ xs) m ≡ slice_get (cond (not v) (x ∷ filter (λ s. not (p s)) xs) (filter (λ s. not (p s)) xs)) k
      go true t zero f ih = absurd (omega (arith, f))
      go true t (suc j) f ih = ih j (omega (arith, f))
      go false t m f ih =
          let same : m ≡ k = omega (arith, f, ap length (none_pass x t xs up.0)) in
          λ i. slice_get (x ∷ sym (all_stay x t xs up.0) i) (same i)

-- ---- counts and places
below_falls : (r a b : List ℕ) → IsUpto a b → is_lt (bytes_cmp b r) ≡ true → is_lt (bytes_cmp a r) ≡ true
below_falls r a b u e = below_less (Exclusive r) a b u e

upto_falls : (r a b : List ℕ) → IsUpto a b → is_le (bytes_cmp b r) ≡ true → is_le (bytes_cmp a r) ≡ true
upto_falls r a b u e = below_less (Inclusive r) a b u e

none_below : (r x : List ℕ) (rows : List (List ℕ)) → is_lt (bytes_cmp x r) ≡ false → AllByRecursion (IsUpto x) rows → below r rows ≡ 0
none_below r x rows e a = ap length (none_pass (λ s. is_lt (bytes_cmp s r)) (below_falls r) x e rows a)

none_upto : (r x : List ℕ) (rows : List (List ℕ)) → is_le (bytes_cmp x r) ≡ false → AllByRecursion (IsUpto x) rows → upto r rows ≡ 0
none_upto r x rows e a = ap length (none_pass (λ s. is_le (bytes_cmp s r)) (upto_falls r) x e rows a)

-- a row stands at the places from the one count up to the other
pub at_place : (r : List ℕ) (rows : List (List ℕ)) (n : ℕ) → IsUpward rows → below r rows ≤ n → n < upto r rows → slice_get rows n ≡ Some r
at_place r [] n up lo hi = absurd (omega (arith, hi))
at_place r (x ∷ xs) n up lo hi = go (bytes_cmp x r) refl n lo hi (λ k l h. at_place r xs k up.1 l h)
  where
    go : (o : Ordering) → bytes_cmp x r ≡ o → (k : ℕ) → length (cond (is_lt o) (x ∷ filter (λ s. is_lt (bytes_cmp s r)) xs) (filter (λ s. is_lt (bytes_cmp s r)) xs)) ≤ k → k < length (cond (is_le o) (x ∷ filter (λ s. is_le (bytes_cmp s r)) xs) (filter (λ s. is_le (bytes_cmp s r)) xs))
        → ((j : ℕ) → below r xs ≤ j → j < upto r xs → slice_get xs j ≡ Some r) → slice_get (x ∷ xs) k ≡ Some r
    go Less e zero l h ih = absurd (omega (arith, l))
    go Less e (suc j) l h ih = ih j (omega (arith, l)) (omega (arith, h))
    go Equal e zero l h ih = ap Some (bytes_tied x r e)
    go Equal e (suc j) l h ih = ih j (omega (arith, none_below r x xs (ap is_lt e) up.0)) (omega (arith, h))
    go Greater e k l h ih = absurd (omega (arith, h, none_upto r x xs (ap is_le e) up.0))

-- .. and nowhere else
pub place_of : (r : List ℕ) (rows : List (List ℕ)) (n : ℕ) → IsUpward rows → slice_get rows n ≡ Some r → (below r rows ≤ n) × (n < upto r rows)
place_of r [] n up e = absurd (cc)
place_of r (x ∷ xs) zero up e =
    let same : x ≡ r = some_is x r e in
    let tied : bytes_cmp x r ≡ Equal = subst (λ s. bytes_cmp x s ≡ Equal) same (tied_itself nat_list_cmp_total x) in
    let none : below r xs ≡ 0 = none_below r x xs (ap is_lt tied) up.0 in
    rw tied (omega (arith, none), omega arith)
place_of r (x ∷ xs) (suc n) up e = go (bytes_cmp x r) refl (place_of r xs n up.1 e)
  where
    go : (o : Ordering) → bytes_cmp x r ≡ o → (below r xs ≤ n) × (n < upto r xs)
        → (length (cond (is_lt o) (x ∷ filter (λ s. is_lt (bytes_cmp s r)) xs) (filter (λ s. is_lt (bytes_cmp s r)) xs)) ≤ suc n) × (suc n < length (cond (is_le o) (x ∷ filter (λ s. is_le (bytes_cmp s r)) xs) (filter (λ s. is_le (bytes_cmp s r)) xs)))
    go Less t ih = (omega (arith, ih.0), omega (arith, ih.1))
    go Equal t ih = (omega (arith, ih.0), omega (arith, ih.1))
    go Greater t ih = absurd (omega (arith, ih.1, none_upto r x xs (ap is_le t) up.0))

-- ---- the last row
pub last_at : (rows : List (List ℕ)) (n : ℕ) → length rows ≡ suc n → last_row rows ≡ slice_get rows n
last_at [] n e = absurd (omega (arith, e))
last_at (r ∷ []) n e = let first : 0 ≡ n = omega (arith, e) in ap (slice_get (r ∷ [])) first
last_at (r ∷ s ∷ rs) zero e = absurd (omega (arith, e))
last_at (r ∷ s ∷ rs) (suc n) e = last_at (s ∷ rs) n (omega (arith, e))

pub no_last : (rows : List (List ℕ)) → length rows ≡ 0 → last_row rows ≡ None
no_last [] e = refl
no_last (r ∷ rs) e = absurd (omega (arith, e))

-- the last of those below a row
pub last_below : (r : List ℕ) (rows : List (List ℕ)) (n : ℕ) → IsUpward rows → below r rows ≡ suc n → last_row (filter (λ s. is_lt (bytes_cmp s r)) rows) ≡ slice_get rows n
last_below r rows n up e = last_at (filter (λ s. is_lt (bytes_cmp s r)) rows) n e ∙ sym (in_front (λ s. is_lt (bytes_cmp s r)) (below_falls r) rows n up (omega (arith, e)))

-- ---- the middle row
pub no_middle : (rows : List (List ℕ)) → length rows ≡ 0 → middle_row rows ≡ None
no_middle [] e = refl
no_middle (r ∷ rs) e = absurd (omega (arith, e))

module _ (rows : List (List ℕ)) (up : IsUpward rows) (m : List ℕ) (mid : slice_get rows (length rows / 2) ≡ Some m) where
  abbrev end : ℕ
  end = length rows - 1

  within : length rows / 2 < length rows
  within = slice_get_within rows (length rows / 2) m mid

  count : length rows ≡ suc end
  count = omega (arith, within)

  -- where some row is above it
  pub middle_is : upto m rows < length rows → middle_row rows ≡ Some m
  middle_is lt = (λ i. below_greatest rows (mid i) (greatest i)) ∙ ap (λ b. cond b (last_row (filter (λ r. is_lt (bytes_cmp r m)) rows)) (Some m)) other
    where
      greatest : last_row rows ≡ Some (get_or rows end [])
      greatest = last_at rows end count ∙ slice_get-get_or rows end [] (omega (arith, count))

      never : m ≡ get_or rows end [] → bytes_eq m (get_or rows end []) ≡ false
      never same = absurd (omega (arith, lt, count, (place_of m rows end up (sym (last_at rows end count) ∙ greatest ∙ ap Some (sym same))).1))

      other : bytes_eq m (get_or rows end []) ≡ false
      other = by_bool (bytes_eq m (get_or rows end [])) (λ t. never ((bytes_eq-Decides m (get_or rows end [])).0 t)) (λ f. f)

  -- where none is
  pub next_lower : length rows ≤ upto m rows → middle_row rows ≡ last_row (filter (λ r. is_lt (bytes_cmp r m)) rows)
  next_lower le = (λ i. below_greatest rows (mid i) (greatest i)) ∙ ap (λ b. cond b (last_row (filter (λ r. is_lt (bytes_cmp r m)) rows)) (Some m)) ((bytes_eq-Decides m m).1 refl)
    where
      greatest : last_row rows ≡ Some m
      greatest = last_at rows end count ∙ at_place m rows end up (omega (arith, (place_of m rows (length rows / 2) up mid).0, within)) (omega (arith, le, count))
