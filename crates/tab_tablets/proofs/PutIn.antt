-- What stands where once tablets are put in that were made before.
use Rattle.std.proofs.Common.{◌≡◌, ◌≢◌, inl, inr, ℕ, suc, ◌+◌, ◌≤◌, ◌<◌, get_or, List, [], ◌∷◌, ◌++◌, Bool, true, false, cond, ◌||◌, refl, sym, ◌∙◌, ap, subst, length, arith}
use Rattle.std.specs.Prelude.{Option, map, ◌==◌}
use Rattle.std.specs.List.{AllByRecursion}
use Rattle.std.proofs.lemmas.Bool.Decides.{nat_tests}
use Rattle.std.proofs.lemmas.List.{length-map}
use Rattle.std.proofs.lemmas.List.Folds.{list_any-append}
use mathlib.Core.Bool.{true≢false}
use Rattle.tab_cells.proofs.Lists.{by_bool}
use Rattle.tab_tablet.specs.Tablets.{Tablet}
use Rattle.tab_tablets.specs.Places.{ended, tablet_at, put_at, IsMadeOf, AreMade, is_made, IsSettled, MakesMore, installed, is_among}
use Rattle.tab_tablets.specs.declared.bounded_tablet.MadeTablet.{MadeTablet}
use Rattle.tab_tablets.proofs.At.{same_length, there, elsewhere, lists_same, at_map}

-- ---- one more
pub installed_more : (ms : List MadeTablet) (m : MadeTablet) (ts : List Tablet) → installed (ms ++ m ∷ []) ts ≡ installed ms (put_at m.place m.tablet ts)
installed_more [] m ts = refl
installed_more (n ∷ ms) m ts = ap (put_at n.place n.tablet) (installed_more ms m ts)

pub made_more : (f : Tablet → Tablet) (ts : List Tablet) (ms : List MadeTablet) (m : MadeTablet) → AreMade f ts ms → IsMadeOf f ts m → AreMade f ts (ms ++ m ∷ [])
made_more f ts [] m a b = (b, tt)
made_more f ts (n ∷ ms) m a b = (a.0, made_more f ts ms m a.1 b)

pub is_made_more : (ms : List MadeTablet) (m : MadeTablet) (k : ℕ) → is_made ms k ≡ true → is_made (ms ++ m ∷ []) k ≡ true
is_made_more ms m k e = list_any-append (λ (n : MadeTablet). n.place == k) ms (m ∷ []) ∙ ap (λ v. v || is_made (m ∷ []) k) e

itself : (k : ℕ) → (k == k) ≡ true
itself k = grind (arith, nat_tests)

or_true : (v : Bool) → (v || (true || false)) ≡ true
or_true true = refl
or_true false = refl

pub is_made_last : (ms : List MadeTablet) (m : MadeTablet) → is_made (ms ++ m ∷ []) m.place ≡ true
is_made_last ms m = list_any-append (λ (n : MadeTablet). n.place == m.place) ms (m ∷ []) ∙ ap (λ v. is_made ms m.place || (v || false)) (itself m.place) ∙ or_true (is_made ms m.place)

pub makes_one : (f : Tablet → Tablet) (ts : List Tablet) (ms : List MadeTablet) (m : MadeTablet) → IsMadeOf f ts m → MakesMore f ts ms (ms ++ m ∷ [])
makes_one f ts ms m is = record { made = λ a. made_more f ts ms m a is; more = λ k e. is_made_more ms m k e }

pub makes_none : (f : Tablet → Tablet) (ts : List Tablet) (ms : List MadeTablet) → MakesMore f ts ms ms
makes_none f ts ms = record { made = λ a. a; more = λ k e. e }

pub makes_both : (f : Tablet → Tablet) (ts : List Tablet) (xs ys zs : List MadeTablet) → MakesMore f ts xs ys → MakesMore f ts ys zs → MakesMore f ts xs zs
makes_both f ts xs ys zs a b = record { made = λ m. b.made (a.made m); more = λ k e. b.more k (a.more k e) }

-- what was settled stays so
pub still_settled : (f : Tablet → Tablet) (ts : List Tablet) (old new : List MadeTablet) (k : ℕ) → MakesMore f ts old new → IsSettled f ts old k → IsSettled f ts new k
still_settled f ts old new k m (inl e) = inl (m.more k e)
still_settled f ts old new k m (inr e) = inr e

-- where the places before one were settled, and that one is, those up to it are
pub settled_next : (f : Tablet → Tablet) (ts : List Tablet) (old new : List MadeTablet) (from i : ℕ) → MakesMore f ts old new → ((k : ℕ) → from ≤ k → k < i → IsSettled f ts old k) → IsSettled f ts new i → (k : ℕ) → from ≤ k → k < i + 1 → IsSettled f ts new k
settled_next f ts old new from i m all at k ge lt = by_bool (k == i) (λ t. subst (IsSettled f ts new) (sym (same k i t)) at) (λ n. still_settled f ts old new k m (all k ge (less k i lt n)))
  where
    same : (a b : ℕ) → (a == b) ≡ true → a ≡ b
    same a b e = grind (arith, nat_tests)

    less : (a b : ℕ) → a < b + 1 → (a == b) ≡ false → a < b
    less a b h n = grind (arith, nat_tests)

-- where one was made for each place before one, and then for that one, one was made for each place up to it
pub made_next : (ms : List MadeTablet) (m : MadeTablet) (i : ℕ) → m.place ≡ i → ((k : ℕ) → k < i → is_made ms k ≡ true) → (k : ℕ) → k < i + 1 → is_made (ms ++ m ∷ []) k ≡ true
made_next ms m i is all k lt = by_bool (k == i) (λ t. subst (λ j. is_made (ms ++ m ∷ []) j ≡ true) (is ∙ sym (same k i t)) (is_made_last ms m)) (λ n. is_made_more ms m k (all k (less k i lt n)))
  where
    same : (a b : ℕ) → (a == b) ≡ true → a ≡ b
    same a b e = grind (arith, nat_tests)

    less : (a b : ℕ) → a < b + 1 → (a == b) ≡ false → a < b
    less a b h n = grind (arith, nat_tests)

-- a place among these stands somewhere in the list
pub among_at : (ws : List ℕ) (k : ℕ) → is_among ws k ≡ true → (j : ℕ) × (j < length ws) × (get_or ws j 0 ≡ k)
among_at [] k e = absurd (true≢false (sym e))
among_at (w ∷ ws) k e = by_bool (w == k) (λ t. (0, omega arith, same t)) (λ n. let h = among_at ws k (ap (λ v. v || is_among ws k) (sym n) ∙ e) in (suc h.0, (let lt = h.1 in omega (arith, lt)), h.2))
  where
    same : (w == k) ≡ true → w ≡ k
    same t = grind (arith, nat_tests)

-- ---- putting them in
-- their places are there
abbrev pub Inside : ℕ → List MadeTablet → Type 0
Inside n ms = AllByRecursion (λ (m : MadeTablet). m.place < n) ms

pub inside_all : (f : Tablet → Tablet) (ts : List Tablet) (ms : List MadeTablet) → AreMade f ts ms → Inside (length ts) ms
inside_all f ts [] a = tt
inside_all f ts (m ∷ ms) a = (a.0.inside, inside_all f ts ms a.1)

pub inside_last : (n : ℕ) (ms : List MadeTablet) (m : MadeTablet) → Inside n (ms ++ m ∷ []) → m.place < n
inside_last n [] m a = a.0
inside_last n (x ∷ ms) m a = inside_last n ms m a.1

pub inside_front : (n : ℕ) (ms : List MadeTablet) (m : MadeTablet) → Inside n (ms ++ m ∷ []) → Inside n ms
inside_front n [] m a = tt
inside_front n (x ∷ ms) m a = (a.0, inside_front n ms m a.1)

-- ---- all of them
pub installed_length : (ms : List MadeTablet) (ts : List Tablet) → length (installed ms ts) ≡ length ts
installed_length [] ts = refl
installed_length (m ∷ ms) ts = same_length (λ (t : Tablet). ended t.end m.tablet) (installed ms ts) m.place ∙ installed_length ms ts

module _ (f : Tablet → Tablet) (ends : (t : Tablet) → (f t).end ≡ t.end) (ts : List Tablet) where
  same_places : (k p : ℕ) → (p == k) ≡ true → k ≡ p
  same_places k p e = grind (arith, nat_tests)

  other_places : (k p : ℕ) → (p == k) ≡ false → k ≢ p
  other_places k p e s = grind (arith, nat_tests)

  either_end : (v : Bool) (t : Tablet) → (cond v (f t) t).end ≡ t.end
  either_end true t = ends t
  either_end false t = refl

  -- where one was made it stands, and elsewhere what stood there
  pub installed_at : (ms : List MadeTablet) → AreMade f ts ms → (k : ℕ) → tablet_at (installed ms ts) k ≡ cond (is_made ms k) (f (tablet_at ts k)) (tablet_at ts k)
  installed_at [] a k = refl
  installed_at (m ∷ ms) a k = go (m.place == k) refl (installed_at ms a.1)
    where
      new : Tablet → Tablet
      new t = ended t.end m.tablet

      go : (v : Bool) → (m.place == k) ≡ v → ((j : ℕ) → tablet_at (installed ms ts) j ≡ cond (is_made ms j) (f (tablet_at ts j)) (tablet_at ts j)) → tablet_at (put_at m.place m.tablet (installed ms ts)) k ≡ cond (v || is_made ms k) (f (tablet_at ts k)) (tablet_at ts k)
      go true e ih =
          let is : k ≡ m.place = same_places k m.place e in
          let i = a.0.inside in
          ap (tablet_at (put_at m.place m.tablet (installed ms ts))) is
          ∙ there (λ (t : Tablet). ended t.end m.tablet) (installed ms ts) m.place (let l = installed_length ms ts in omega (arith, l, i))
          ∙ ap (λ (o : Option (List ℕ)). ended o m.tablet) (ap (λ (t : Tablet). t.end) (ih m.place) ∙ either_end (is_made ms m.place) (tablet_at ts m.place))
          ∙ a.0.is ∙ ap (λ j. f (tablet_at ts j)) (sym is)
      go false e ih = elsewhere (λ (t : Tablet). ended t.end m.tablet) (installed ms ts) m.place k (other_places k m.place e) ∙ ih k

  pub settled_at : (ms : List MadeTablet) → AreMade f ts ms → (k : ℕ) → IsSettled f ts ms k → tablet_at (installed ms ts) k ≡ f (tablet_at ts k)
  settled_at ms a k (inl e) = installed_at ms a k ∙ ap (λ v. cond v (f (tablet_at ts k)) (tablet_at ts k)) e
  settled_at ms a k (inr e) = installed_at ms a k ∙ go (is_made ms k)
    where
      go : (v : Bool) → cond v (f (tablet_at ts k)) (tablet_at ts k) ≡ f (tablet_at ts k)
      go true = refl
      go false = sym e

  -- so all of them are what f makes of them
  pub installed_all : (ms : List MadeTablet) → AreMade f ts ms → ((k : ℕ) → k < length ts → IsSettled f ts ms k) → installed ms ts ≡ map f ts
  installed_all ms a s = lists_same (installed ms ts) (map f ts) (installed_length ms ts ∙ sym (length-map ts f))
      (λ k lt. let l = installed_length ms ts in let in_ts : k < length ts = omega (arith, l, lt) in settled_at ms a k (s k in_ts) ∙ sym (at_map f ts k in_ts))
