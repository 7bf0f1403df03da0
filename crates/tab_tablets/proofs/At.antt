-- What stands where once something is put in a tablet's place.
use Rattle.std.proofs.Common.{◌≡◌, ◌≢◌, ℕ, zero, suc, ◌+◌, ◌≤◌, ◌<◌, List, [], ◌∷◌, ◌++◌, refl, sym, ◌∙◌, ap, length, get_or, set, arith}
use Rattle.std.specs.Prelude.{map}
use Rattle.std.specs.List.{insert}
use Rattle.tab_tablet.specs.Tablets.{Tablet}
use Rattle.tab_tablet.specs.Splitting.{split_at}
use Rattle.tab_tablets.specs.Places.{ended, tablet_at, at_place, put_at}

abbrev pub one : (Tablet → Tablet) → Tablet → List Tablet
one f t = f t ∷ []

-- ---- one for one
pub same_length : (f : Tablet → Tablet) (ts : List Tablet) (p : ℕ) → length (at_place p (one f) ts) ≡ length ts
same_length f [] p = refl
same_length f (t ∷ ts) zero = refl
same_length f (t ∷ ts) (suc p) = ap suc (same_length f ts p)

pub there : (f : Tablet → Tablet) (ts : List Tablet) (p : ℕ) → p < length ts → tablet_at (at_place p (one f) ts) p ≡ f (tablet_at ts p)
there f [] p lt = absurd (omega arith)
there f (t ∷ ts) zero lt = refl
there f (t ∷ ts) (suc p) lt = there f ts p (omega arith)

pub elsewhere : (f : Tablet → Tablet) (ts : List Tablet) (p k : ℕ) → k ≢ p → tablet_at (at_place p (one f) ts) k ≡ tablet_at ts k
elsewhere f [] p k ne = refl
elsewhere f (t ∷ ts) zero zero ne = absurd (ne refl)
elsewhere f (t ∷ ts) zero (suc k) ne = refl
elsewhere f (t ∷ ts) (suc p) zero ne = refl
elsewhere f (t ∷ ts) (suc p) (suc k) ne = elsewhere f ts p k (λ e. ne (ap suc e))

-- the end row stays where it does
pub same_end : (f : Tablet → Tablet) → ((t : Tablet) → (f t).end ≡ t.end) → (ts : List Tablet) (p k : ℕ) → (tablet_at (at_place p (one f) ts) k).end ≡ (tablet_at ts k).end
same_end f ends [] p k = refl
same_end f ends (t ∷ ts) zero zero = ends t
same_end f ends (t ∷ ts) zero (suc k) = refl
same_end f ends (t ∷ ts) (suc p) zero = refl
same_end f ends (t ∷ ts) (suc p) (suc k) = same_end f ends ts p k

-- and so does what waits to be frozen
pub same_active : (f : Tablet → Tablet) → ((t : Tablet) → (f t).active ≡ t.active) → (ts : List Tablet) (p k : ℕ) → (tablet_at (at_place p (one f) ts) k).active ≡ (tablet_at ts k).active
same_active f idle [] p k = refl
same_active f idle (t ∷ ts) zero zero = idle t
same_active f idle (t ∷ ts) zero (suc k) = refl
same_active f idle (t ∷ ts) (suc p) zero = refl
same_active f idle (t ∷ ts) (suc p) (suc k) = same_active f idle ts p k

-- only what is done with the tablet there counts
pub at_same : (f g : Tablet → List Tablet) (ts : List Tablet) (p : ℕ) → f (tablet_at ts p) ≡ g (tablet_at ts p) → at_place p f ts ≡ at_place p g ts
at_same f g [] p e = refl
at_same f g (t ∷ ts) zero e = ap (λ l. l ++ ts) e
at_same f g (t ∷ ts) (suc p) e = ap (λ l. t ∷ l) (at_same f g ts p e)

-- ---- lower tablets and the last
pub at_lower : (f : Tablet → Tablet) (lower : List Tablet) (x : Tablet) (p : ℕ) (old : Tablet) → p < length lower → old ≡ get_or lower p old → set lower p (f old) ++ x ∷ [] ≡ at_place p (one f) (lower ++ x ∷ [])
at_lower f [] x p old lt is = absurd (omega arith)
at_lower f (t ∷ ts) x zero old lt is = ap (λ s. f s ∷ (ts ++ x ∷ [])) is
at_lower f (t ∷ ts) x (suc p) old lt is = ap (λ l. t ∷ l) (at_lower f ts x p old (omega arith) is)

pub at_last : (f : Tablet → Tablet) (lower : List Tablet) (x : Tablet) (p : ℕ) → length lower ≤ p → p < length (lower ++ x ∷ []) → lower ++ f x ∷ [] ≡ at_place p (one f) (lower ++ x ∷ [])
at_last f [] x zero le lt = refl
at_last f [] x (suc p) le lt = absurd (omega arith)
at_last f (t ∷ ts) x zero le lt = absurd (omega arith)
at_last f (t ∷ ts) x (suc p) le lt = ap (λ l. t ∷ l) (at_last f ts x p (omega arith) (omega arith))

-- the tablet at a place is one of the lower ones, or the last
pub lower_is : (lower : List Tablet) (x : Tablet) (p : ℕ) (old : Tablet) → p < length lower → old ≡ get_or lower p old → tablet_at (lower ++ x ∷ []) p ≡ old
lower_is [] x p old lt is = absurd (omega arith)
lower_is (t ∷ ts) x zero old lt is = sym is
lower_is (t ∷ ts) x (suc p) old lt is = lower_is ts x p old (omega arith) is

pub last_is : (lower : List Tablet) (x : Tablet) (p : ℕ) → length lower ≤ p → p < length (lower ++ x ∷ []) → tablet_at (lower ++ x ∷ []) p ≡ x
last_is [] x zero le lt = refl
last_is [] x (suc p) le lt = absurd (omega arith)
last_is (t ∷ ts) x zero le lt = absurd (omega arith)
last_is (t ∷ ts) x (suc p) le lt = last_is ts x p (omega arith) (omega arith)

-- ---- two for one
pub divided : (ts : List Tablet) (a b : Tablet) (p : ℕ) → p < length ts → put_at (p + 1) b (insert ts p a) ≡ at_place p (λ (t : Tablet). a ∷ ended t.end b ∷ []) ts
divided [] a b p lt = absurd (omega arith)
divided (t ∷ ts) a b zero lt = refl
divided (t ∷ ts) a b (suc p) lt = step p ∙ ap (λ l. t ∷ l) (divided ts a b p (omega arith))
  where
    step : (p : ℕ) → put_at (suc p + 1) b (insert (t ∷ ts) (suc p) a) ≡ t ∷ put_at (p + 1) b (insert ts p a)
    step p = let e : suc p + 1 ≡ suc (p + 1) = omega arith in ap (λ k. put_at k b (insert (t ∷ ts) (suc p) a)) e

module _ (row : List ℕ) (number : ℕ) where
  pub longer : (ts : List Tablet) (p : ℕ) → p < length ts → length (at_place p (split_at row number) ts) ≡ length ts + 1
  longer [] p lt = absurd (omega arith)
  longer (t ∷ ts) zero lt = omega arith
  longer (t ∷ ts) (suc p) lt = let e = longer ts p (omega arith) in omega (arith, e)

  pub before : (ts : List Tablet) (p k : ℕ) → k < p → tablet_at (at_place p (split_at row number) ts) k ≡ tablet_at ts k
  before [] p k lt = refl
  before (t ∷ ts) zero k lt = absurd (omega arith)
  before (t ∷ ts) (suc p) zero lt = refl
  before (t ∷ ts) (suc p) (suc k) lt = before ts p k (omega arith)

  pub low_is_frozen : (ts : List Tablet) (p : ℕ) → (tablet_at (at_place p (split_at row number) ts) p).active ≡ []
  low_is_frozen [] p = refl
  low_is_frozen (t ∷ ts) zero = refl
  low_is_frozen (t ∷ ts) (suc p) = low_is_frozen ts p

  pub high_is_frozen : (ts : List Tablet) (p : ℕ) → (tablet_at (at_place p (split_at row number) ts) (suc p)).active ≡ []
  high_is_frozen [] p = refl
  high_is_frozen (t ∷ ts) zero = refl
  high_is_frozen (t ∷ ts) (suc p) = high_is_frozen ts p

  pub behind : (ts : List Tablet) (p k : ℕ) → p < k → tablet_at (at_place p (split_at row number) ts) (suc k) ≡ tablet_at ts k
  behind [] p k lt = refl
  behind (t ∷ ts) zero zero lt = absurd (omega arith)
  behind (t ∷ ts) zero (suc k) lt = refl
  behind (t ∷ ts) (suc p) zero lt = absurd (omega arith)
  behind (t ∷ ts) (suc p) (suc k) lt = behind ts p k (omega arith)

-- ---- all of them
pub lists_same : (xs ys : List Tablet) → length xs ≡ length ys → ((k : ℕ) → k < length xs → tablet_at xs k ≡ tablet_at ys k) → xs ≡ ys
lists_same [] [] e f = refl
lists_same [] (y ∷ ys) e f = absurd (omega arith)
lists_same (x ∷ xs) [] e f = absurd (omega arith)
lists_same (x ∷ xs) (y ∷ ys) e f = λ i. f 0 (omega arith) i ∷ lists_same xs ys (omega arith) (λ k lt. f (suc k) (omega arith)) i

pub at_map : (f : Tablet → Tablet) (ts : List Tablet) (k : ℕ) → k < length ts → tablet_at (map f ts) k ≡ f (tablet_at ts k)
at_map f [] k lt = absurd (omega arith)
at_map f (t ∷ ts) zero lt = refl
at_map f (t ∷ ts) (suc k) lt = at_map f ts k (omega arith)

pub none_waits_in : (f : Tablet → Tablet) → ((t : Tablet) → (f t).active ≡ []) → (ts : List Tablet) (k : ℕ) → (tablet_at (map f ts) k).active ≡ []
none_waits_in f idle [] k = refl
none_waits_in f idle (t ∷ ts) zero = idle t
none_waits_in f idle (t ∷ ts) (suc k) = none_waits_in f idle ts k
