-- Entries in a row, one after the other.
use Rattle.std.proofs.Common.{◌≡◌, ℕ, zero, suc, ◌+◌, ◌-◌, ◌<◌, ◌≤◌, min, ltb, Bool, true, false, List, [], ◌∷◌, ◌++◌, length, map, take, drop, slice_get, Some, None, refl, sym, ap, ◌∙◌, arith}
use Rattle.std.proofs.Math.Seq.{take-add}
use Rattle.std.proofs.lemmas.Bool.{ltb-true, ltb-false}
use Rattle.std.proofs.lemmas.List.{length-drop, map-append}
use Rattle.tab_book.specs.Entries.{Posted}
use Rattle.tab_book.specs.Slices.{Shown, shown}

some_is : {a b : Posted} → Some a ≡ Some b → a ≡ b
some_is e = cc

-- the entry at a place, by itself
pub one_there : (xs : List Posted) (k : ℕ) (x : Posted) → slice_get xs k ≡ Some x → map shown (take 1 (drop k xs)) ≡ shown x ∷ []
one_there [] k x is = cc
one_there (y ∷ xs) zero x is = ap (λ z. shown z ∷ []) (some_is is)
one_there (y ∷ xs) (suc k) x is = one_there xs k x is

pub none_there : (xs : List Posted) (k : ℕ) → slice_get xs k ≡ None → map shown (take 1 (drop k xs)) ≡ []
none_there [] zero is = refl
none_there [] (suc k) is = refl
none_there (y ∷ xs) zero is = cc
none_there (y ∷ xs) (suc k) is = none_there xs k is

drop_none : (n : ℕ) → drop {A = Posted} n [] ≡ []
drop_none zero = refl
drop_none (suc n) = refl

dropped : (xs : List Posted) (a b : ℕ) → drop a (drop b xs) ≡ drop (b + a) xs
dropped xs a zero = let e : a ≡ 0 + a = omega arith in ap (λ k. drop k xs) e
dropped [] a (suc b) = drop_none a ∙ sym (drop_none (suc b + a))
dropped (x ∷ xs) a (suc b) = let e : suc (b + a) ≡ suc b + a = omega arith in dropped xs a b ∙ ap (λ k. drop k (x ∷ xs)) e

-- those from one place up to another
abbrev pub up_to : List Posted → ℕ → ℕ → List Shown
up_to xs from n = map shown (take (n - from) (drop from xs))

pub no_more : (xs : List Posted) (from : ℕ) → up_to xs from from ≡ []
no_more xs from = let e : from - from ≡ 0 = omega arith in ap (λ n. map shown (take n (drop from xs))) e

pub one_more : (xs : List Posted) (from n : ℕ) → from ≤ n → up_to xs from (n + 1) ≡ up_to xs from n ++ map shown (take 1 (drop n xs))
one_more xs from n le =
    let more : n + 1 - from ≡ n - from + 1 = omega (arith, le) in
    let back : from + (n - from) ≡ n = omega (arith, le) in
    ap (λ k. map shown (take k (drop from xs))) more
    ∙ ap (map shown) (take-add (n - from) 1 (drop from xs))
    ∙ map-append shown (take (n - from) (drop from xs)) (take 1 (drop (n - from) (drop from xs)))
    ∙ ap (λ ys. up_to xs from n ++ map shown (take 1 ys)) (dropped xs (n - from) from ∙ ap (λ k. drop k xs) back)

all_of : (ys : List Posted) (n : ℕ) → length ys ≤ n → take n ys ≡ ys
all_of [] zero le = refl
all_of [] (suc n) le = refl
all_of (y ∷ ys) zero le = absurd (omega (arith, le))
all_of (y ∷ ys) (suc n) le = ap (λ r. y ∷ r) (all_of ys n (omega (arith, le)))

-- up to where there are so many, or none is left
pub whole : (xs : List Posted) (from most n : ℕ) → n - from ≡ min (from + most) (length xs) - from → up_to xs from n ≡ map shown (take most (drop from xs))
whole xs from most n is = ap (map shown) (go (ltb most (length xs - from)) refl)
  where
    go : (b : Bool) → ltb most (length xs - from) ≡ b → take (n - from) (drop from xs) ≡ take most (drop from xs)
    go true t =
        let few : most < length xs - from = ltb-true most (length xs - from) t in
        let e : n - from ≡ most = omega (arith, few, is) in
        ap (λ k. take k (drop from xs)) e
    go false f =
        let many : length xs - from ≤ most = ltb-false most (length xs - from) f in
        let all : length (drop from xs) ≤ n - from = omega (arith, many, is, length-drop from xs) in
        let up : length (drop from xs) ≤ most = omega (arith, many, length-drop from xs) in
        all_of (drop from xs) (n - from) all ∙ sym (all_of (drop from xs) most up)
