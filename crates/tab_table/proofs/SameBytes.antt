-- How many first bytes are the same, of 16 that are compared at once.
use Rattle.std.proofs.Common.{◌≡◌, ℕ, zero, suc, ◌+◌, ◌%◌, ◌^◌, ◌≤◌, List, [], ◌∷◌, Bool, true, false, not, cond, eqb, w8, refl, sym, ◌∙◌, ap, length, take, map, min, arith}
use lib.Count.{count_trailing_zeros}
use Rattle.std.specs.List.{prefix_len}
use Rattle.std.proofs.lemmas.List.{length-map}
use Rattle.std.proofs.lemmas.Simd.{tops_compared, mask_l-mod, first_set_mask_l}
use lib.Lanes.{zip2, mask_l, top}
use Rattle.tab_table.specs.Sizes.{shared}

abbrev differ : ℕ → ℕ → Bool
differ x y = not (eqb x y)

-- the first place at which two lists differ
counted : (v : Bool) (m n : ℕ) → m ≡ n → cond (not (not v)) (1 + m) 0 ≡ cond v (suc n) 0
counted true m n e = omega (arith, e)
counted false m n e = refl

alike : (xs ys : List ℕ) → length xs ≡ length ys → prefix_len (λ b. not b) (zip2 differ xs ys) ≡ shared xs ys
alike [] ys e = refl
alike (x ∷ xs) [] e = absurd (omega (arith, e))
alike (x ∷ xs) (y ∷ ys) e = counted (eqb x y) (prefix_len (λ b. not b) (zip2 differ xs ys)) (shared xs ys) (alike xs ys (omega (arith, e)))

paired : (xs ys : List ℕ) → length xs ≡ length ys → length (zip2 differ xs ys) ≡ length xs
paired [] ys e = refl
paired (x ∷ xs) [] e = absurd (omega (arith, e))
paired (x ∷ xs) (y ∷ ys) e = ap suc (paired xs ys (omega (arith, e)))

itself : (bs : List Bool) → map (λ b. b) bs ≡ bs
itself [] = refl
itself (b ∷ bs) = ap (λ r. b ∷ r) (itself bs)

-- .. is the lowest bit of what the comparison gives
pub step_shared : (xs ys : List ℕ) (bits r : ℕ) → length xs ≡ 16 → length ys ≡ 16 → bits ≡ mask_l (map (top 7) (zip2 (λ a b. cond (differ a b) 255 0) xs ys)) % 2 ^ 64 → r ≡ cond (eqb bits 0) 16 (count_trailing_zeros 64 bits) → r ≡ shared xs ys
step_shared xs ys bits r ex ey is found =
    let zs : List Bool = zip2 differ xs ys in
    let same : length xs ≡ length ys = ex ∙ sym ey in
    let long : length zs ≡ 16 = paired xs ys same ∙ ex in
    let lanes : map (top 7) (zip2 (λ a b. cond (differ a b) 255 0) xs ys) ≡ map (λ b. b) zs = tops_compared w8 differ xs ys ∙ sym (itself zs) in
    let mask : bits ≡ mask_l (map (λ b. b) zs) = is ∙ ap (λ l. mask_l l % 2 ^ 64) lanes ∙ mask_l-mod (map (λ b. b) zs) 64 (omega (arith, length-map zs (λ b. b), long)) in
    found ∙ ap (λ n. cond (eqb n 0) 16 (count_trailing_zeros 64 n)) mask ∙ first_set_mask_l (λ b. b) zs 16 long (omega arith) ∙ alike xs ys same

-- ---- of fewer bytes
none_shared : (xs : List ℕ) → shared xs [] ≡ 0
none_shared [] = refl
none_shared (x ∷ xs) = refl

cut_both : (v : Bool) (s m n u : ℕ) → min (min s m) n ≡ u → min (min (cond v (suc s) 0) (suc m)) (suc n) ≡ cond v (suc u) 0
cut_both true s m n u e = omega (arith, e)
cut_both false s m n u e = omega arith

pub shared_cut : (k m n : ℕ) (xs ys : List ℕ) → m ≤ k → n ≤ k → min (min (shared (take k xs) (take k ys)) m) n ≡ shared (take m xs) (take n ys)
shared_cut k zero n xs ys a b = omega arith
shared_cut k (suc m) zero xs ys a b = let none = none_shared (take (suc m) xs) in omega (arith, none)
shared_cut zero (suc m) (suc n) xs ys a b = absurd (omega (arith, a))
shared_cut (suc k) (suc m) (suc n) [] ys a b = omega arith
shared_cut (suc k) (suc m) (suc n) (x ∷ xs) [] a b = omega arith
shared_cut (suc k) (suc m) (suc n) (x ∷ xs) (y ∷ ys) a b = cut_both (eqb x y) (shared (take k xs) (take k ys)) m n (shared (take m xs) (take n ys)) (shared_cut k m n xs ys (omega (arith, a)) (omega (arith, b)))
