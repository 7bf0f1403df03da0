-- What two byte strings share.
use Rattle.std.proofs.Common.{◌≡◌, ◌≢◌, ℕ, zero, suc, ◌+◌, ◌*◌, ◌-◌, ◌<◌, ◌≤◌, List, [], ◌∷◌, ◌++◌, Bool, true, false, cond, refl, sym, ◌∙◌, ap, length, take, drop, get_or, min, arith, add-one, eq-eqb}
use Rattle.std.specs.Prelude.{◌==◌}
use Rattle.std.proofs.lemmas.Bool.Decides.{nat_tests}
use Rattle.std.proofs.lemmas.List.{length-drop, length-take-le, drop-drop, get_or-drop, take-append-drop}
use Rattle.std.proofs.lemmas.Nat.{be_bytes_8}
use Rattle.std.specs.Int.{w64, from_be_bytes, to_be_bytes}
use Rattle.std.specs.List.{slice_range}
use Rattle.tab_table.specs.Sizes.{shared}

-- ---- byte by byte
shared_same : (a b : List ℕ) (i : ℕ) → i < length a → i < length b → get_or a i 0 ≡ get_or b i 0 → shared (drop i a) (drop i b) ≡ suc (shared (drop (suc i) a) (drop (suc i) b))
shared_same [] b i la lb e = absurd (omega (arith, la))
shared_same (x ∷ a) [] i la lb e = absurd (omega (arith, lb))
shared_same (x ∷ a) (y ∷ b) zero la lb e = ap (λ v. cond v (suc (shared a b)) 0) (eq-eqb x y e)
shared_same (x ∷ a) (y ∷ b) (suc i) la lb e = shared_same a b i (omega (arith, la)) (omega (arith, lb)) e

pub shared_on : (a b : List ℕ) (i : ℕ) → i < length a → i < length b → get_or a i 0 ≡ get_or b i 0 → shared (drop i a) (drop i b) ≡ suc (shared (drop (i + 1) a) (drop (i + 1) b))
shared_on a b i la lb e = rw add-one (shared_same a b i la lb e)

other_byte : (x y n : ℕ) → x ≢ y → cond (x == y) n 0 ≡ 0
other_byte x y n e = grind (arith, nat_tests)

pub shared_broken : (a b : List ℕ) (i : ℕ) → i < length a → i < length b → get_or a i 0 ≢ get_or b i 0 → shared (drop i a) (drop i b) ≡ 0
shared_broken [] b i la lb e = absurd (omega (arith, la))
shared_broken (x ∷ a) [] i la lb e = absurd (omega (arith, lb))
shared_broken (x ∷ a) (y ∷ b) zero la lb e = other_byte x y (suc (shared a b)) e
shared_broken (x ∷ a) (y ∷ b) (suc i) la lb e = shared_broken a b i (omega (arith, la)) (omega (arith, lb)) e

shared_none : (a : List ℕ) → shared a [] ≡ 0
shared_none [] = refl
shared_none (x ∷ a) = refl

pub shared_ended : (a b : List ℕ) (i : ℕ) → min (length a) (length b) ≤ i → shared (drop i a) (drop i b) ≡ 0
shared_ended [] b zero h = refl
shared_ended [] b (suc i) h = refl
shared_ended (x ∷ a) [] zero h = refl
shared_ended (x ∷ a) [] (suc i) h = shared_none (drop i a)
shared_ended (x ∷ a) (y ∷ b) zero h = absurd (omega (arith, h))
shared_ended (x ∷ a) (y ∷ b) (suc i) h = shared_ended a b i (omega (arith, h))

-- ---- many bytes at once
front_shared : (n : ℕ) (a b : List ℕ) → n ≤ length a → n ≤ length b → take n a ≡ take n b → shared a b ≡ n + shared (drop n a) (drop n b)
front_shared zero a b la lb e = omega arith
front_shared (suc n) [] b la lb e = absurd (omega (arith, la))
front_shared (suc n) (x ∷ a) [] la lb e = absurd (omega (arith, lb))
front_shared (suc n) (x ∷ a) (y ∷ b) la lb e =
    let test : shared (x ∷ a) (y ∷ b) ≡ suc (shared a b) = ap (λ v. cond v (suc (shared a b)) 0) (eq-eqb x y (ap (λ l. get_or l 0 0) e)) in
    let rest : shared a b ≡ n + shared (drop n a) (drop n b) = front_shared n a b (omega (arith, la)) (omega (arith, lb)) (ap (drop 1) e) in
    omega (arith, test, rest)

-- where so many bytes from a place on are the same
pub shared_along : (a b : List ℕ) (i n : ℕ) → i + n ≤ length a → i + n ≤ length b → take n (drop i a) ≡ take n (drop i b) → shared (drop i a) (drop i b) ≡ n + shared (drop (i + n) a) (drop (i + n) b)
shared_along a b i n la lb e =
    front_shared n (drop i a) (drop i b) (omega (arith, la, length-drop i a)) (omega (arith, lb, length-drop i b)) e ∙ (λ j. n + shared (drop-drop n i a j) (drop-drop n i b j))

small_taken : (n : ℕ) (xs : List ℕ) → ((i : ℕ) → get_or xs i 0 < 256) → (i : ℕ) → get_or (take n xs) i 0 < 256
small_taken zero xs small i = omega arith
small_taken (suc n) [] small i = small i
small_taken (suc n) (x ∷ xs) small zero = small 0
small_taken (suc n) (x ∷ xs) small (suc i) = small_taken n xs (λ j. small (suc j)) i

-- eight bytes of some, and the number that they spell
word_cut : (bytes : List ℕ) (p : ℕ) → slice_range bytes p (p + 8) ≡ take 8 (drop p bytes)
word_cut bytes p = let eight : p + 8 - p ≡ 8 = omega arith in ap (λ (k : ℕ). take k (drop p bytes)) eight

pub word_bytes : (bytes : List ℕ) (p n : ℕ) → p + 8 ≤ length bytes → ((i : ℕ) → get_or bytes i 0 < 256) → n ≡ from_be_bytes w64 (slice_range bytes p (p + 8)) → to_be_bytes w64 n ≡ slice_range bytes p (p + 8)
word_bytes bytes p n long small is =
    let rest = drop p bytes in
    let size : length (take 8 rest) ≡ 8 = length-take-le 8 rest (omega (arith, long, length-drop p bytes)) in
    let low : (i : ℕ) → get_or rest i 0 < 256 = λ i. omega (arith, small (p + i), get_or-drop p bytes i 0) in
    be_bytes_8 (take 8 rest) n size (small_taken 8 rest low) (is ∙ ap (from_be_bytes w64) (word_cut bytes p)) ∙ sym (word_cut bytes p)

-- the words with an index are the same
pub same_words : (a b : List ℕ) (i m n : ℕ) → 8 * (i + 1) ≤ length a → 8 * (i + 1) ≤ length b → to_be_bytes w64 m ≡ slice_range a (8 * i) (8 * i + 8) → to_be_bytes w64 n ≡ slice_range b (8 * i) (8 * i + 8) → m ≡ n → shared a b ≡ 8 * i + shared (drop (8 * i) a) (drop (8 * i) b) → shared a b ≡ 8 * (i + 1) + shared (drop (8 * (i + 1)) a) (drop (8 * (i + 1)) b)
same_words a b i m n la lb ea eb e so =
    let p = 8 * i in
    let same : take 8 (drop p a) ≡ take 8 (drop p b) = sym (word_cut a p) ∙ sym ea ∙ ap (to_be_bytes w64) e ∙ eb ∙ word_cut b p in
    let next : p + 8 ≡ 8 * (i + 1) = omega arith in
    let step = shared_along a b p 8 (omega (arith, la)) (omega (arith, lb)) same in
    let moved : shared (drop (p + 8) a) (drop (p + 8) b) ≡ shared (drop (8 * (i + 1)) a) (drop (8 * (i + 1)) b) = ap (λ k. shared (drop k a) (drop k b)) next in
    omega (arith, so, step, moved)

-- ---- what it says
pub shared_first : (a b : List ℕ) → shared a b ≤ length a
shared_first [] b = omega arith
shared_first (x ∷ a) [] = omega arith
shared_first (x ∷ a) (y ∷ b) = go (x == y) (shared_first a b)
  where
    go : (v : Bool) → shared a b ≤ length a → cond v (suc (shared a b)) 0 ≤ suc (length a)
    go true ih = omega (arith, ih)
    go false ih = omega arith

pub shared_second : (a b : List ℕ) → shared a b ≤ length b
shared_second [] b = omega arith
shared_second (x ∷ a) [] = omega arith
shared_second (x ∷ a) (y ∷ b) = go (x == y) (shared_second a b)
  where
    go : (v : Bool) → shared a b ≤ length b → cond v (suc (shared a b)) 0 ≤ suc (length b)
    go true ih = omega (arith, ih)
    go false ih = omega arith

same_byte : (x y : ℕ) → (x == y) ≡ true → x ≡ y
same_byte x y e = grind (arith, nat_tests)

shared_alike : (a b : List ℕ) → take (shared a b) a ≡ take (shared a b) b
shared_alike [] [] = refl
shared_alike [] (y ∷ b) = refl
shared_alike (x ∷ a) [] = refl
shared_alike (x ∷ a) (y ∷ b) = go (x == y) refl (shared_alike a b)
  where
    go : (v : Bool) → (x == y) ≡ v → take (shared a b) a ≡ take (shared a b) b → take (cond v (suc (shared a b)) 0) (x ∷ a) ≡ take (cond v (suc (shared a b)) 0) (y ∷ b)
    go true e ih = λ i. same_byte x y e i ∷ ih i
    go false e ih = refl

-- what is shared, and the rest
pub shared_rest : (a b : List ℕ) → take (shared a b) a ++ drop (shared a b) b ≡ b
shared_rest a b = ap (λ xs. xs ++ drop (shared a b) b) (shared_alike a b) ∙ take-append-drop (shared a b) b
