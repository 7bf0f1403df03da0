-- Things that rise by their names: each is found by its own, and a fold that puts one after the other leaves of each what it was put as.
use Rattle.std.proofs.Common.{◌≡◌, ℕ, Bool, true, false, cond, ◌||◌, List, [], ◌∷◌, length, map, refl, sym, ap, ◌∙◌, subst, arith}
use Rattle.std.specs.Prelude.{Option, Some, None, is_some, find, bytes_eq}
use Rattle.std.specs.List.{AllByRecursion, fold, list_any}
use Rattle.std.specs.List.Sorted.{IsStrictlySortedBy}
use Rattle.std.specs.Ordering.{is_eq}
use Rattle.std.specs.declared.cmp.Ordering.TheVariants.{Less}
use Rattle.std.proofs.lemmas.Option.{none-some}
use Rattle.std.proofs.lemmas.Slice.Eq.{bytes_eq-Decides}
use mathlib.Core.Bool.{true≢false}
use Rattle.tab_key.specs.Bytes.{bytes_cmp}
use Rattle.tab_label.specs.Sets.{IsRising, has}
use Rattle.tab_policy.proofs.NameLemmas.{same_name}

-- ---- names
pub itself : (n : List ℕ) → bytes_eq n n ≡ true
itself n = (bytes_eq-Decides n n).1 refl

pub same_by : (a b : List ℕ) → bytes_eq a b ≡ true → a ≡ b
same_by a b e = (bytes_eq-Decides a b).0 e

-- which of the two is named first doesn't matter
pub flipped : (a b : List ℕ) → bytes_eq a b ≡ bytes_eq b a
flipped a b = go (bytes_eq a b) (bytes_eq b a) refl refl
  where
    go : (v w : Bool) → bytes_eq a b ≡ v → bytes_eq b a ≡ w → v ≡ w
    go true true e f = refl
    go false false e f = refl
    go true false e f = absurd (true≢false (sym ((bytes_eq-Decides b a).1 (sym (same_by a b e))) ∙ f))
    go false true e f = absurd (true≢false (sym ((bytes_eq-Decides a b).1 (sym (same_by b a f))) ∙ e))

Less-not_equal : is_eq Less ≡ true → ⊥
Less-not_equal e = cc

-- a name that is below another one is another one
pub below_other : (a b : List ℕ) → bytes_cmp a b ≡ Less → bytes_eq a b ≡ false
below_other a b lt = go (bytes_eq a b) refl
  where
    itself_below : bytes_cmp a a ≡ Less → ⊥
    itself_below e = Less-not_equal (sym (ap is_eq e) ∙ same_name a a ∙ itself a)

    go : (v : Bool) → bytes_eq a b ≡ v → v ≡ false
    go false e = refl
    go true e = absurd (itself_below (subst (λ c. bytes_cmp a c ≡ Less) (sym (same_by a b e)) lt))

-- what is above a name isn't of that name
pub above_other : (a b : List ℕ) → bytes_cmp a b ≡ Less → bytes_eq b a ≡ false
above_other a b lt = flipped b a ∙ below_other a b lt

pub nothing_left : {A : Type 0} (xs : List A) → length xs ≡ 0 → xs ≡ []
nothing_left [] none = refl
nothing_left (x ∷ xs) none = absurd (omega (arith, none))

-- what each leaves as it was, all leave
pub fold_keeps : {A R X : Type 0} (put : R → A → R) (read : R → X) → ((r : R) (x : A) → read (put r x) ≡ read r) → (xs : List A) (r : R) → read (fold put r xs) ≡ read r
fold_keeps put read one [] r = refl
fold_keeps put read one (x ∷ xs) r = fold_keeps put read one xs (put r x) ∙ one r x

-- ---- things with names
-- what f makes of the thing, or what there is else
abbrev pub found_or : {A X : Type 0} → (A → X) → X → Option A → X
found_or f x None = x
found_or f x (Some a) = f a

module _ {A : Type 0} (name : A → List ℕ) where
  -- the first of this name
  abbrev pub found : List ℕ → List A → Option A
  found n xs = find (λ (x : A). bytes_eq (name x) n) xs

  -- of this name is none above it
  pub none_above : (n : List ℕ) (xs : List A) → AllByRecursion (λ m. bytes_cmp n m ≡ Less) (map name xs) → found n xs ≡ None
  none_above n [] a = refl
  none_above n (x ∷ xs) a = ap (λ v. cond v (Some x) (found n xs)) (above_other n (name x) a.0) ∙ none_above n xs a.1

  -- each is found by its name
  pub each_found : (xs : List A) → IsRising (map name xs) → AllByRecursion (λ x. found (name x) xs ≡ Some x) xs
  unfolding IsStrictlySortedBy
  each_found [] r = tt
  each_found (x ∷ xs) r = (ap (λ v. cond v (Some x) (found (name x) xs)) (itself (name x)), behind xs r.0 (each_found xs r.1))
    where
      behind : (ys : List A) → AllByRecursion (λ m. bytes_cmp (name x) m ≡ Less) (map name ys) → AllByRecursion (λ y. found (name y) xs ≡ Some y) ys → AllByRecursion (λ y. found (name y) (x ∷ xs) ≡ Some y) ys
      behind [] a f = tt
      behind (y ∷ ys) a f = (ap (λ v. cond v (Some x) (found (name y) xs)) (below_other (name x) (name y) a.0) ∙ f.0, behind ys a.1 f.1)

  -- what is found has the name, and what holds of all
  pub found_named : (xs : List A) (n : List ℕ) (x : A) → found n xs ≡ Some x → name x ≡ n
  found_named [] n x e = absurd (cc)
  found_named (y ∷ ys) n x e = go (bytes_eq (name y) n) refl (found_named ys n x) e
    where
      go : (v : Bool) → bytes_eq (name y) n ≡ v → (found n ys ≡ Some x → name x ≡ n) → cond v (Some y) (found n ys) ≡ Some x → name x ≡ n
      go true is rest e = ap (λ o. name (found_or (λ z. z) y o)) (sym e) ∙ same_by (name y) n is
      go false is rest e = rest e

  pub found_all : (P : A → Type 0) (xs : List A) → AllByRecursion P xs → (n : List ℕ) (x : A) → found n xs ≡ Some x → P x
  found_all P [] a n x e = absurd (cc)
  found_all P (y ∷ ys) a n x e = go (bytes_eq (name y) n) (found_all P ys a.1 n x) e
    where
      go : (v : Bool) → (found n ys ≡ Some x → P x) → cond v (Some y) (found n ys) ≡ Some x → P x
      go true rest e = subst P (ap (λ o. found_or (λ z. z) y o) e) a.0
      go false rest e = rest e

  -- a name is among theirs where one is found
  pub has_found : (xs : List A) (n : List ℕ) → has (map name xs) n ≡ is_some (found n xs)
  has_found [] n = refl
  has_found (x ∷ xs) n = ap (λ v. v || has (map name xs) n) (flipped n (name x)) ∙ go (bytes_eq (name x) n) (has_found xs n)
    where
      go : (v : Bool) → has (map name xs) n ≡ is_some (found n xs) → (v || has (map name xs) n) ≡ is_some (cond v (Some x) (found n xs))
      go true e = refl
      go false e = e

  pub any_named : (xs : List A) (n : List ℕ) → list_any (λ (x : A). bytes_eq (name x) n) xs ≡ is_some (found n xs)
  any_named [] n = refl
  any_named (x ∷ xs) n = go (bytes_eq (name x) n) (any_named xs n)
    where
      go : (v : Bool) → list_any (λ (x : A). bytes_eq (name x) n) xs ≡ is_some (found n xs) → (v || list_any (λ (x : A). bytes_eq (name x) n) xs) ≡ is_some (cond v (Some x) (found n xs))
      go true e = refl
      go false e = e

  -- what passes a test that only one name passes is found by it
  pub any_found : (p : A → Bool) (n : List ℕ) → ((x : A) → p x ≡ true → name x ≡ n) → (xs : List A) → IsRising (map name xs) → list_any p xs ≡ true → (x : A) × (found n xs ≡ Some x) × (p x ≡ true)
  unfolding IsStrictlySortedBy
  any_found p n named [] r e = absurd (true≢false (sym e))
  any_found p n named (x ∷ xs) r e = go (p x) refl (any_found p n named xs r.1) e
    where
      first : name x ≡ n → found n (x ∷ xs) ≡ Some x
      first is = ap (λ v. cond v (Some x) (found n xs)) ((bytes_eq-Decides (name x) n).1 is)

      other : (y : A) → found n xs ≡ Some y → (v : Bool) → bytes_eq (name x) n ≡ v → cond v (Some x) (found n xs) ≡ Some y
      other y f false is = f
      other y f true is = absurd (none-some y (sym (none_above n xs (subst (λ m. AllByRecursion (λ k. bytes_cmp m k ≡ Less) (map name xs)) (same_by (name x) n is) r.0)) ∙ f))

      go : (v : Bool) → p x ≡ v → (list_any p xs ≡ true → (y : A) × (found n xs ≡ Some y) × (p y ≡ true)) → (v || list_any p xs) ≡ true → (y : A) × (found n (x ∷ xs) ≡ Some y) × (p y ≡ true)
      go true is rest e = (x, first (named x is), is)
      go false is rest e = let y = rest e in (y.0, other y.0 y.1 (bytes_eq (name x) n) refl, y.2)

  -- ---- one put after the other: what is read under a name is what the thing of that name was put as
  module _ {R X : Type 0} (put : R → A → R) (Keeps : R → Type 0) (stays : (r : R) (x : A) → Keeps r → Keeps (put r x)) (n : List ℕ) (read : R → X) (of : A → X)
      (one : (r : R) (x : A) → Keeps r → read (put r x) ≡ cond (bytes_eq (name x) n) (of x) (read r)) where
    pub folds_found : (xs : List A) (r : R) → Keeps r → IsRising (map name xs) → read (fold put r xs) ≡ found_or of (read r) (found n xs)
    unfolding IsStrictlySortedBy
    folds_found [] r k rise = refl
    folds_found (x ∷ xs) r k rise = folds_found xs (put r x) (stays r x k) rise.1 ∙ ap (λ y. found_or of y (found n xs)) (one r x k) ∙ go (bytes_eq (name x) n) refl
      where
        go : (v : Bool) → bytes_eq (name x) n ≡ v → found_or of (cond v (of x) (read r)) (found n xs) ≡ found_or of (read r) (cond v (Some x) (found n xs))
        go false is = refl
        go true is = ap (found_or of (of x)) (none_above n xs (subst (λ m. AllByRecursion (λ k. bytes_cmp m k ≡ Less) (map name xs)) (same_by (name x) n is) rise.0))
