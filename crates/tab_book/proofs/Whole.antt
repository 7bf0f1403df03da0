-- Where every receipt stands in the book, the numbers differ and there are as many as entries, no entry is without its receipt.
use Rattle.std.proofs.Common.{◌≡◌, ℕ, suc, ◌+◌, ◌-◌, ◌<◌, ◌≤◌, List, [], ◌∷◌, Bool, true, false, ◌||◌, cond, eqb, length, map, refl, sym, ap, ◌∙◌, subst, All, Some, slice_get, arith}
use Rattle.std.specs.Prelude.{filter, nat_eq}
use Rattle.std.specs.List.{IsDistinct, list_any, AllByRecursion}
use Rattle.std.proofs.lemmas.Bool.{eqb-true, eqb-false}
use Rattle.std.proofs.lemmas.List.Elements.{recursion_from_All}
use Rattle.std.proofs.lemmas.Map.Steps.{length-le_from_distinct_below}
use Rattle.std.proofs.lemmas.Option.{slice_get_within}
use Rattle.tab_book.specs.Entries.{Posted, Record}
use Rattle.tab_book.specs.Receipts.{Slip, Has}
use Rattle.tab_book.specs.Wholeness.{AreApart, IsWhole}

or_false : (a b : Bool) → (a || b) ≡ false → (a ≡ false) × (b ≡ false)
or_false true b e = cc
or_false false b e = (refl, e)

or_true : (a b : Bool) → (a || b) ≡ true → a ≡ false → b ≡ true
or_true true b e off = cc
or_true false b e off = e

none_equal : (k : ℕ) (ns : List ℕ) → list_any (eqb k) ns ≡ false → AllByRecursion (λ y. eqb k y ≡ false) ns
none_equal k [] e = tt
none_equal k (n ∷ ns) e = let p = or_false (eqb k n) (list_any (eqb k) ns) e in (p.0, none_equal k ns p.1)

-- ---- numbers from a first one on
-- at or above the first, and fewer than n above it
abbrev Within : ℕ → ℕ → ℕ → Type 0
Within first n k = (first ≤ k) × (k < first + n)

-- how far they are above the first
abbrev shifted : ℕ → List ℕ → List ℕ
shifted first ns = map (λ k. k - first) ns

shifted_many : (first : ℕ) (ns : List ℕ) → length (shifted first ns) ≡ length ns
shifted_many first [] = refl
shifted_many first (n ∷ ns) = ap suc (shifted_many first ns)

two_shifted : (first n k m : ℕ) → Within first n k → Within first n m → eqb k m ≡ false → (b : Bool) → eqb (k - first) (m - first) ≡ b → b ≡ false
two_shifted first n k m low high differ true same =
    let is : k - first ≡ m - first = eqb-true (k - first) (m - first) same in
    absurd (eqb-false k m differ (omega (arith, is, low.0, high.0)))
two_shifted first n k m low high differ false same = refl

none_shifted : (first n k : ℕ) (ns : List ℕ) → Within first n k → AllByRecursion (Within first n) ns → AllByRecursion (λ y. eqb k y ≡ false) ns → AllByRecursion (λ y. eqb (k - first) y ≡ false) (shifted first ns)
none_shifted first n k [] inside all differ = tt
none_shifted first n k (m ∷ ns) inside all differ = (two_shifted first n k m inside all.0 differ.0 (eqb (k - first) (m - first)) refl, none_shifted first n k ns inside all.1 differ.1)

apart_shifted : (first n : ℕ) (ns : List ℕ) → AllByRecursion (Within first n) ns → IsDistinct eqb ns → IsDistinct eqb (shifted first ns)
unfolding IsDistinct
apart_shifted first n [] all apart = tt
apart_shifted first n (k ∷ ns) all apart = (none_shifted first n k ns all.0 all.1 apart.0, apart_shifted first n ns all.1 apart.1)

below_shifted : (first n q : ℕ) (ns : List ℕ) → AllByRecursion (Within first n) ns → list_any (eqb q) (shifted first ns) ≡ true → q < n
below_shifted first n q [] all there = absurd (cc)
below_shifted first n q (k ∷ ns) all there = go (eqb q (k - first)) refl there (below_shifted first n q ns all.1)
  where
    go : (b : Bool) → eqb q (k - first) ≡ b → (b || list_any (eqb q) (shifted first ns)) ≡ true → (list_any (eqb q) (shifted first ns) ≡ true → q < n) → q < n
    go true same is rest = let e : q ≡ k - first = eqb-true q (k - first) same in omega (arith, e, all.0.0, all.0.1)
    go false same is rest = rest is

-- numbers from the first on, n of them and no two equal, are all that are there
every_number : (first n : ℕ) (ns : List ℕ) → IsDistinct eqb ns → AllByRecursion (Within first n) ns → length ns ≡ n → (k : ℕ) → Within first n k → list_any (eqb k) ns ≡ true
unfolding IsDistinct
every_number first n ns apart all many k inside = go (list_any (eqb k) ns) refl
  where
    go : (b : Bool) → list_any (eqb k) ns ≡ b → b ≡ true
    go true e = refl
    go false e =
        let bound : length (shifted first (k ∷ ns)) ≤ n = length-le_from_distinct_below (shifted first (k ∷ ns)) n (apart_shifted first n (k ∷ ns) (inside, all) (none_equal k ns e, apart)) (λ q is. below_shifted first n q (k ∷ ns) (inside, all) is) in
        absurd (omega (arith, bound, many, shifted_many first ns))

-- ---- receipts by their numbers
abbrev numbers : List Slip → List ℕ
numbers slips = map (λ (s : Slip). s.number) slips

as_many : (slips : List Slip) → length (numbers slips) ≡ length slips
as_many [] = refl
as_many (s ∷ slips) = ap suc (as_many slips)

abbrev at : ℕ → List Slip → List Slip
at k slips = filter (λ (s : Slip). nat_eq s.number k) slips

-- a choice of which the test is known
chosen : {X : Type 0} (b : Bool) (x y : X) → b ≡ true → cond b x y ≡ x
chosen true x y e = refl
chosen false x y e = cc

other : {X : Type 0} (b : Bool) (x y : X) → b ≡ false → cond b x y ≡ y
other true x y e = cc
other false x y e = refl

turned : (k n : ℕ) (b : Bool) → eqb k n ≡ b → eqb n k ≡ false → b ≡ false
turned k n true same e = absurd (eqb-false n k e (sym (eqb-true k n same)))
turned k n false same e = refl

off_at : (k n m : ℕ) (b : Bool) → eqb m k ≡ b → n ≡ k → eqb n m ≡ false → b ≡ false
off_at k n m true same is differ = absurd (eqb-false n m differ (is ∙ sym (eqb-true m k same)))
off_at k n m false same is differ = refl

-- those that differ from a number are left out
left_out : (k n : ℕ) (slips : List Slip) → n ≡ k → AllByRecursion (λ y. eqb n y ≡ false) (numbers slips) → at k slips ≡ []
left_out k n [] is differ = refl
left_out k n (s ∷ slips) is differ = other (nat_eq s.number k) (s ∷ at k slips) (at k slips) (off_at k n s.number (eqb s.number k) refl is differ.0) ∙ left_out k n slips is differ.1

-- just one with a number that is there
abbrev One : (Slip → Type 0) → ℕ → List Slip → Type 0
One P k found = (slip : Slip) × (found ≡ slip ∷ []) × (slip.number ≡ k) × P slip

one : (P : Slip → Type 0) (k : ℕ) (s : Slip) (slips : List Slip) (b : Bool) → nat_eq s.number k ≡ b → AllByRecursion (λ y. eqb s.number y ≡ false) (numbers slips) → P s → (eqb k s.number || list_any (eqb k) (numbers slips)) ≡ true → (list_any (eqb k) (numbers slips) ≡ true → One P k (at k slips)) → One P k (cond b (s ∷ at k slips) (at k slips))
one P k s slips true e differ p there rest = let is : s.number ≡ k = eqb-true s.number k e in (s, ap (λ r. s ∷ r) (left_out k s.number slips is differ), is, p)
one P k s slips false e differ p there rest = rest (or_true (eqb k s.number) (list_any (eqb k) (numbers slips)) there (turned k s.number (eqb k s.number) refl e))

alone : (P : Slip → Type 0) (k : ℕ) (slips : List Slip) → IsDistinct eqb (numbers slips) → AllByRecursion P slips → list_any (eqb k) (numbers slips) ≡ true → One P k (at k slips)
unfolding IsDistinct
alone P k [] apart all there = absurd (cc)
alone P k (s ∷ slips) apart all there = one P k s slips (nat_eq s.number k) refl apart.0 all.0 there (alone P k slips apart.1 all.1)

-- where they all stand, their numbers are the entries'
numbers_within : (book : Record) (slips : List Slip) → AllByRecursion (Has book) slips → AllByRecursion (Within book.first (length book.entries)) (numbers slips)
numbers_within book [] stand = tt
numbers_within book (s ∷ slips) stand =
    let inside : s.number - book.first < length book.entries = slice_get_within book.entries (s.number - book.first) s.entry stand.0.1 in
    ((stand.0.0, omega (arith, inside, stand.0.0)), numbers_within book slips stand.1)

some_is : {a b : Posted} → Some a ≡ Some b → a ≡ b
some_is e = cc

pub whole : (book : Record) (slips : List Slip) → All (Has book) slips → AreApart slips → length slips ≡ length book.entries → IsWhole book slips
whole book slips stand apart many place entry is =
    let k : ℕ = book.first + place in
    let all : AllByRecursion (Has book) slips = recursion_from_All (Has book) slips stand in
    let inside : place < length book.entries = slice_get_within book.entries place entry is in
    let there : list_any (eqb k) (numbers slips) ≡ true = every_number book.first (length book.entries) (numbers slips) apart (numbers_within book slips all) (as_many slips ∙ many) k (omega arith, omega (arith, inside)) in
    let found = alone (Has book) k slips apart all there in
    let back : k - book.first ≡ place = omega arith in
    let at_place : slice_get book.entries (k - book.first) ≡ Some found.0.entry = subst (λ n. slice_get book.entries (n - book.first) ≡ Some found.0.entry) found.2 found.3.1 in
    (found.0, found.1, some_is (sym at_place ∙ ap (slice_get book.entries) back ∙ is))
