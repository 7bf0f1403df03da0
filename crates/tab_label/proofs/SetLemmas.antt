-- Sets as rising lists: their members, and that the members alone make the list.
use Rattle.std.proofs.Common.{◌≡◌, ◌⊎◌, ◌↔◌, inl, inr, ℕ, suc, zero, ◌<◌, ◌||◌, Bool, true, false, List, [], ◌∷◌, length, get_or, fold, map, bytes_eq, refl, sym, ap, ◌∙◌, arith}
use Rattle.std.specs.List.{Contains, AllByRecursion, list_any}
use Rattle.std.specs.List.Sorted.{IsStrictlySortedBy}
use Rattle.std.specs.Ordering.{nat_cmp}
use Rattle.std.specs.Cmp.Lexicographic.{slice_cmp}
use Rattle.std.specs.FinMap.{slice_cmp-IsAntisymmetric, nat_cmp-IsAntisymmetric}
use Rattle.std.specs.declared.cmp.Ordering.{Ordering}
use Rattle.std.specs.declared.cmp.Ordering.TheVariants.{Less, Equal, Greater}
use Rattle.std.proofs.lemmas.Cmp.{nat_list_cmp_total, tied_itself}
use Rattle.std.proofs.lemmas.Slice.Eq.{bytes_eq-Decides}
use Rattle.tab_key.specs.Bytes.{bytes_cmp}
use Rattle.tab_label.specs.Sets.{has, by_order, with_member, set_of, IsRising}
use Rattle.tab_label.proofs.BoolLemmas.{either, from_either, same_test}

has_so : (set : List (List ℕ)) (term : List ℕ) → has set term ≡ true → Contains set term
has_so [] term h = absurd cc
has_so (x ∷ xs) term h = elim (either (bytes_eq term x) (has xs term) h) [
  | inl here ↦ (0, omega arith, sym ((bytes_eq-Decides term x).0 here))
  | inr later ↦ let (k, lt, is) = has_so xs term later in (suc k, omega arith, is)
]

so_has : (set : List (List ℕ)) (term : List ℕ) (k : ℕ) → k < length set → get_or set k term ≡ term → has set term ≡ true
so_has [] term k lt is = absurd (omega arith)
so_has (x ∷ xs) term zero lt is = from_either (bytes_eq term x) (has xs term) (inl ((bytes_eq-Decides term x).1 (sym is)))
so_has (x ∷ xs) term (suc k) lt is = from_either (bytes_eq term x) (has xs term) (inr (so_has xs term k (omega arith) is))

-- The test of membership is the fact.
pub has_is : (set : List (List ℕ)) (term : List ℕ) → (has set term ≡ true) ↔ Contains set term
has_is set term = (has_so set term, λ h. so_has set term h.0 h.1 h.2)

pub has_not : (set : List (List ℕ)) (term : List ℕ) → (Contains set term → ⊥) → has set term ≡ false
has_not set term h = same_test (has set term) false (λ e. absurd (h (has_so set term e))) (λ e. absurd cc)

-- an answer that is true exactly for members is the test's
pub has_test : (r : Bool) (set : List (List ℕ)) (term : List ℕ) → (r ≡ true) ↔ Contains set term → r ≡ has set term
has_test r set term h = same_test r (has set term) (λ e. (has_is set term).1 (h.0 e)) (λ e. h.1 ((has_is set term).0 e))

below_member : (x : List ℕ) (xs : List (List ℕ)) (term : List ℕ) → AllByRecursion (λ y. bytes_cmp x y ≡ Less) xs → has xs term ≡ true → bytes_cmp x term ≡ Less
below_member x [] term all h = absurd cc
below_member x (y ∷ ys) term all h = elim (either (bytes_eq term y) (has ys term) h) [
  | inl here ↦ rw ((bytes_eq-Decides term y).0 here) all.0
  | inr later ↦ below_member x ys term all.1 later
]

not_both_below : (x y : List ℕ) → bytes_cmp x y ≡ Less → bytes_cmp y x ≡ Less → ⊥
not_both_below x y h k = let turned = nat_list_cmp_total.antisymm x y in cc

not_below_itself : (x y : List ℕ) → x ≡ y → bytes_cmp x y ≡ Less → ⊥
not_below_itself x y e h = let tied = tied_itself nat_list_cmp_total y in let same : bytes_cmp y y ≡ Less = rw e at h in cc

has_itself : (x : List ℕ) (xs : List (List ℕ)) → has (x ∷ xs) x ≡ true
has_itself x xs = from_either (bytes_eq x x) (has xs x) (inl ((bytes_eq-Decides x x).1 refl))

-- a member of the longer list that isn't its head is one of the tail
in_tail : (x y : List ℕ) (ys : List (List ℕ)) (term : List ℕ) → x ≡ y → bytes_cmp x term ≡ Less → has (y ∷ ys) term ≡ true → has ys term ≡ true
in_tail x y ys term same below h = elim (either (bytes_eq term y) (has ys term) h) [
  | inl here ↦ absurd (not_below_itself x term (same ∙ sym ((bytes_eq-Decides term y).0 here)) below)
  | inr later ↦ later
]

same_heads : (x y : List ℕ) (xs ys : List (List ℕ)) → AllByRecursion (λ z. bytes_cmp x z ≡ Less) xs → AllByRecursion (λ z. bytes_cmp y z ≡ Less) ys → has (y ∷ ys) x ≡ true → has (x ∷ xs) y ≡ true → x ≡ y
same_heads x y xs ys above_x above_y h k = elim (either (bytes_eq x y) (has ys x) h) [
  | inl here ↦ (bytes_eq-Decides x y).0 here
  | inr later ↦ elim (either (bytes_eq y x) (has xs y) k) [
    | inl here ↦ sym ((bytes_eq-Decides y x).0 here)
    | inr too ↦ absurd (not_both_below x y (below_member x xs y above_x too) (below_member y ys x above_y later))
  ]
]

-- a test of each image, and of each element
pub any_image : {X : Type 0} (f : X → List ℕ) (p : List ℕ → Bool) (xs : List X) → list_any p (map f xs) ≡ list_any (λ x. p (f x)) xs
any_image f p [] = refl
any_image f p (x ∷ xs) = ap (λ (b : Bool). p (f x) || b) (any_image f p xs)

-- Rising lists of the same members are one list.
pub same_rising : (xs ys : List (List ℕ)) → IsRising xs → IsRising ys → ((t : List ℕ) → has xs t ≡ true → has ys t ≡ true) → ((t : List ℕ) → has ys t ≡ true → has xs t ≡ true) → xs ≡ ys
unfolding IsStrictlySortedBy
same_rising [] [] rx ry f g = refl
same_rising [] (y ∷ ys) rx ry f g = let h = g y (has_itself y ys) in absurd cc
same_rising (x ∷ xs) [] rx ry f g = let h = f x (has_itself x xs) in absurd cc
same_rising (x ∷ xs) (y ∷ ys) rx ry f g =
    let heads : x ≡ y = same_heads x y xs ys rx.0 ry.0 (f x (has_itself x xs)) (g y (has_itself y ys)) in
    let tails : xs ≡ ys = same_rising xs ys rx.1 ry.1
    (λ t h. in_tail x y ys t heads (below_member x xs t rx.0 h) (f t (from_either (bytes_eq t x) (has xs t) (inr h))))
    (λ t h. in_tail y x xs t (sym heads) (below_member y ys t ry.0 h) (g t (from_either (bytes_eq t y) (has ys t) (inr h)))) in
    cc

-- ---- one more member
with_above : (x : List ℕ) (xs : List (List ℕ)) (term : List ℕ) → bytes_cmp x term ≡ Less → AllByRecursion (λ y. bytes_cmp x y ≡ Less) xs → AllByRecursion (λ y. bytes_cmp x y ≡ Less) (with_member xs term)
with_above x [] term below all = (below, tt)
with_above x (y ∷ ys) term below all = go (bytes_cmp term y) (with_above x ys term below all.1)
  where
    go : (o : Ordering) → AllByRecursion (λ z. bytes_cmp x z ≡ Less) (with_member ys term) → AllByRecursion (λ z. bytes_cmp x z ≡ Less) (by_order o (term ∷ y ∷ ys) (y ∷ ys) (y ∷ with_member ys term))
    go Less ih = (below, all)
    go Equal ih = all
    go Greater ih = (all.0, ih)

above_all : (term y : List ℕ) (ys : List (List ℕ)) → bytes_cmp term y ≡ Less → AllByRecursion (λ z. bytes_cmp y z ≡ Less) ys → AllByRecursion (λ z. bytes_cmp term z ≡ Less) ys
above_all term y [] h all = tt
above_all term y (z ∷ zs) h all = (nat_list_cmp_total.trans term y z h all.0, above_all term y zs h all.1)

pub rising_with : (xs : List (List ℕ)) (term : List ℕ) → IsRising xs → IsRising (with_member xs term)
unfolding IsStrictlySortedBy
rising_with [] term h = (tt, tt)
rising_with (y ∷ ys) term h = go (bytes_cmp term y) refl (rising_with ys term h.1)
  where
    go : (o : Ordering) → bytes_cmp term y ≡ o → IsStrictlySortedBy (slice_cmp nat_cmp) (with_member ys term) → IsStrictlySortedBy (slice_cmp nat_cmp) (by_order o (term ∷ y ∷ ys) (y ∷ ys) (y ∷ with_member ys term))
    go Less is ih = ((is, above_all term y ys is h.0), h)
    go Equal is ih = h
    go Greater is ih = (with_above y ys term (nat_list_cmp_total.antisymm y term ∙ ap (λ o. o) (rw is refl)) h.0, ih)

-- what was a member is one, and so is the new one
pub has_more : (xs : List (List ℕ)) (term t : List ℕ) → has xs t ≡ true → has (with_member xs term) t ≡ true
has_more [] term t h = absurd cc
has_more (y ∷ ys) term t h = go (bytes_cmp term y) (has_more ys term t)
  where
    go : (o : Ordering) → (has ys t ≡ true → has (with_member ys term) t ≡ true) → has (by_order o (term ∷ y ∷ ys) (y ∷ ys) (y ∷ with_member ys term)) t ≡ true
    go Less ih = from_either (bytes_eq t term) _ (inr h)
    go Equal ih = h
    go Greater ih = elim (either (bytes_eq t y) (has ys t) h) [
      | inl here ↦ from_either (bytes_eq t y) _ (inl here)
      | inr later ↦ from_either (bytes_eq t y) _ (inr (ih later))
    ]

pub has_new : (xs : List (List ℕ)) (term t : List ℕ) → t ≡ term → has (with_member xs term) t ≡ true
has_new [] term t e = from_either (bytes_eq t term) false (inl ((bytes_eq-Decides t term).1 e))
has_new (y ∷ ys) term t e = go (bytes_cmp term y) refl (has_new ys term t e)
  where
    go : (o : Ordering) → bytes_cmp term y ≡ o → has (with_member ys term) t ≡ true → has (by_order o (term ∷ y ∷ ys) (y ∷ ys) (y ∷ with_member ys term)) t ≡ true
    go Less is ih = from_either (bytes_eq t term) _ (inl ((bytes_eq-Decides t term).1 e))
    go Equal is ih = from_either (bytes_eq t y) _ (inl ((bytes_eq-Decides t y).1 (e ∙ slice_cmp-IsAntisymmetric nat_cmp-IsAntisymmetric term y is)))
    go Greater is ih = from_either (bytes_eq t y) _ (inr ih)

-- a member is the new one or was one
pub has_old : (xs : List (List ℕ)) (term t : List ℕ) → has (with_member xs term) t ≡ true → (t ≡ term) ⊎ (has xs t ≡ true)
has_old [] term t h = elim (either (bytes_eq t term) false h) [ inl here ↦ inl ((bytes_eq-Decides t term).0 here) | inr later ↦ absurd cc ]
has_old (y ∷ ys) term t h = go (bytes_cmp term y) (has_old ys term t) h
  where
    go : (o : Ordering) → (has (with_member ys term) t ≡ true → (t ≡ term) ⊎ (has ys t ≡ true)) → has (by_order o (term ∷ y ∷ ys) (y ∷ ys) (y ∷ with_member ys term)) t ≡ true → (t ≡ term) ⊎ (has (y ∷ ys) t ≡ true)
    go Less ih k = elim (either (bytes_eq t term) (has (y ∷ ys) t) k) [ inl here ↦ inl ((bytes_eq-Decides t term).0 here) | inr later ↦ inr later ]
    go Equal ih k = inr k
    go Greater ih k = elim (either (bytes_eq t y) (has (with_member ys term) t) k) [
      | inl here ↦ inr (from_either (bytes_eq t y) (has ys t) (inl here))
      | inr later ↦ elim (ih later) [ inl new ↦ inl new | inr old ↦ inr (from_either (bytes_eq t y) (has ys t) (inr old)) ]
    ]

-- ---- the set of many
pub rising_nothing : IsRising []
unfolding IsStrictlySortedBy
rising_nothing = tt

pub rising_fold : (terms set : List (List ℕ)) → IsRising set → IsRising (fold with_member set terms)
rising_fold [] set h = h
rising_fold (x ∷ xs) set h = rising_fold xs (with_member set x) (rising_with set x h)

pub has_fold_left : (terms set : List (List ℕ)) (t : List ℕ) → has set t ≡ true → has (fold with_member set terms) t ≡ true
has_fold_left [] set t h = h
has_fold_left (x ∷ xs) set t h = has_fold_left xs (with_member set x) t (has_more set x t h)

pub has_fold_right : (terms set : List (List ℕ)) (t : List ℕ) → has terms t ≡ true → has (fold with_member set terms) t ≡ true
has_fold_right [] set t h = absurd cc
has_fold_right (x ∷ xs) set t h = elim (either (bytes_eq t x) (has xs t) h) [
  | inl here ↦ has_fold_left xs (with_member set x) t (has_new set x t ((bytes_eq-Decides t x).0 here))
  | inr later ↦ has_fold_right xs (with_member set x) t later
]

pub has_fold_either : (terms set : List (List ℕ)) (t : List ℕ) → has (fold with_member set terms) t ≡ true → (has set t ≡ true) ⊎ (has terms t ≡ true)
has_fold_either [] set t h = inl h
has_fold_either (x ∷ xs) set t h = elim (has_fold_either xs (with_member set x) t h) [
  | inl one ↦ elim (has_old set x t one) [ inl new ↦ inr (from_either (bytes_eq t x) (has xs t) (inl ((bytes_eq-Decides t x).1 new))) | inr old ↦ inl old ]
  | inr later ↦ inr (from_either (bytes_eq t x) (has xs t) (inr later))
]

-- A set is rising, and has the members that are given.
pub rising_set : (terms : List (List ℕ)) → IsRising (set_of terms)
rising_set terms = rising_fold terms [] rising_nothing

pub has_set_of : (terms : List (List ℕ)) (t : List ℕ) → has (set_of terms) t ≡ has terms t
has_set_of terms t = same_test (has (set_of terms) t) (has terms t) (λ h. elim (has_fold_either terms [] t h) [ inl none ↦ absurd cc | inr one ↦ one ]) (λ h. has_fold_right terms [] t h)

-- A rising list of the members that are given is their set.
pub set_is : (set terms : List (List ℕ)) → IsRising set → ((t : List ℕ) → Contains set t ↔ Contains terms t) → set ≡ set_of terms
set_is set terms rising members = same_rising set (set_of terms) rising (rising_set terms)
    (λ t h. has_set_of terms t ∙ (has_is terms t).1 ((members t).0 ((has_is set t).0 h)))
    (λ t h. (has_is set t).1 ((members t).1 ((has_is terms t).0 (sym (has_set_of terms t) ∙ h))))
