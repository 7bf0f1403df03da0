-- A byte string of at most seven bytes as one number.
use Rattle.std.proofs.Common.{◌≡◌, ◌≢◌, ℕ, zero, suc, ◌+◌, ◌*◌, ◌-◌, ◌/◌, ◌^◌, ◌<◌, ◌≤◌, List, [], ◌∷◌, ◌⊎◌, inl, inr, refl, sym, ◌∙◌, ap, subst, length, take, drop, get_or, arith, length-drop}
use Rattle.std.specs.List.{AllByRecursion, slice_range}
use Rattle.std.specs.Int.{from_be_bytes, w64}
use Rattle.std.specs.Prelude.{true, false, nat_lt}
use Rattle.std.proofs.lemmas.Bool.{cases_order}
use Rattle.std.proofs.lemmas.Bool.Decides.{nat_tests}
use Rattle.std.proofs.lemmas.List.{length-take-le, drop-take, drop-drop}
use Rattle.std.proofs.lemmas.Nat.{same_from_place}
use Rattle.std.proofs.Math.Nat.{pow-suc, pow-le-pow_right}
use Rattle.tab_key.specs.RowPrefix.{padded}
use Rattle.tab_key.specs.Words.{worth, word_of, IsWord, mark_of}
use Rattle.tab_key.proofs.BigEndian.{worth_bound}

-- ---- the number tells its bytes
abbrev pub AreBytes : List ℕ → Type 0
AreBytes = AllByRecursion (λ b. b < 256)

-- as many bytes that are worth the same are the same
pub same_digits : (xs ys : List ℕ) → length xs ≡ length ys → AreBytes xs → AreBytes ys → worth xs ≡ worth ys → xs ≡ ys
same_digits [] [] s a b e = refl
same_digits [] (y ∷ ys) s a b e = absurd (omega (arith, s))
same_digits (x ∷ xs) [] s a b e = absurd (omega (arith, s))
same_digits (x ∷ xs) (y ∷ ys) s a b e =
    let same : length xs ≡ length ys = omega (arith, s) in
    let low : worth xs < 256 ^ length ys = subst (λ (n : ℕ). worth xs < 256 ^ n) same (worth_bound xs a.1) in
    let turned : x * 256 ^ length ys + worth xs ≡ y * 256 ^ length ys + worth ys = subst (λ (n : ℕ). x * 256 ^ n + worth xs ≡ y * 256 ^ length ys + worth ys) same e in
    let both = same_from_place x (worth xs) y (worth ys) (256 ^ length ys) low (worth_bound ys b.1) turned in
    let rest : xs ≡ ys = same_digits xs ys same a.1 b.1 both.1 in
    λ i. both.0 i ∷ rest i

-- the shorter string has the less number
shorter : (xs ys : List ℕ) → length xs < length ys → AreBytes xs → worth (1 ∷ xs) < worth (1 ∷ ys)
shorter xs ys l a =
    let more : 256 ^ suc (length xs) ≤ 256 ^ length ys = pow-le-pow_right (omega arith) (omega (arith, l)) in
    omega (arith, worth_bound xs a, more, pow-suc 256 (length xs))

pub same_words : (word : ℕ) (a b : List ℕ) → IsWord word a → IsWord word b → a ≡ b
unfolding word_of
same_words word a b p q =
    let one : worth (1 ∷ a) ≡ worth (1 ∷ b) = sym p.value ∙ q.value in
    let no_less : length a < length b → ⊥ = λ l. absurd (omega (arith, one, shorter a b l p.bytes)) in
    let no_more : length b < length a → ⊥ = λ l. absurd (omega (arith, one, shorter b a l q.bytes)) in
    let same : length a ≡ length b = even (length a) (length b) no_less no_more (cases_order (length a) (length b)) in
    let power : 256 ^ length a ≡ 256 ^ length b = ap (λ (n : ℕ). 256 ^ n) same in
    same_digits a b same p.bytes q.bytes (omega (arith, one, power))
  where
    even : (m n : ℕ) → (m < n → ⊥) → (n < m → ⊥) → (m ≡ n) ⊎ ((m < n) ⊎ (n < m)) → m ≡ n
    even m n f g (inl e) = e
    even m n f g (inr (inl l)) = absurd (f l)
    even m n f g (inr (inr l)) = absurd (g l)

-- ---- of eight bytes the first ones
first_of : (a b c d e f g h count : ℕ) → count ≤ 7 → AreBytes (a ∷ b ∷ c ∷ d ∷ e ∷ f ∷ g ∷ h ∷ []) → (72057594037927936 + from_be_bytes w64 (a ∷ b ∷ c ∷ d ∷ e ∷ f ∷ g ∷ h ∷ []) / 256) / 2 ^ (56 - 8 * count) ≡ worth (1 ∷ take count (a ∷ b ∷ c ∷ d ∷ e ∷ f ∷ g ∷ h ∷ []))
first_of a b c d e f g h zero l s = omega (arith, s.0, s.1.0, s.1.1.0, s.1.1.1.0, s.1.1.1.1.0, s.1.1.1.1.1.0, s.1.1.1.1.1.1.0, s.1.1.1.1.1.1.1.0)
first_of a b c d e f g h (suc zero) l s = omega (arith, s.0, s.1.0, s.1.1.0, s.1.1.1.0, s.1.1.1.1.0, s.1.1.1.1.1.0, s.1.1.1.1.1.1.0, s.1.1.1.1.1.1.1.0)
first_of a b c d e f g h (suc (suc zero)) l s = omega (arith, s.0, s.1.0, s.1.1.0, s.1.1.1.0, s.1.1.1.1.0, s.1.1.1.1.1.0, s.1.1.1.1.1.1.0, s.1.1.1.1.1.1.1.0)
first_of a b c d e f g h (suc (suc (suc zero))) l s = omega (arith, s.0, s.1.0, s.1.1.0, s.1.1.1.0, s.1.1.1.1.0, s.1.1.1.1.1.0, s.1.1.1.1.1.1.0, s.1.1.1.1.1.1.1.0)
first_of a b c d e f g h (suc (suc (suc (suc zero)))) l s = omega (arith, s.0, s.1.0, s.1.1.0, s.1.1.1.0, s.1.1.1.1.0, s.1.1.1.1.1.0, s.1.1.1.1.1.1.0, s.1.1.1.1.1.1.1.0)
first_of a b c d e f g h (suc (suc (suc (suc (suc zero))))) l s = omega (arith, s.0, s.1.0, s.1.1.0, s.1.1.1.0, s.1.1.1.1.0, s.1.1.1.1.1.0, s.1.1.1.1.1.1.0, s.1.1.1.1.1.1.1.0)
first_of a b c d e f g h (suc (suc (suc (suc (suc (suc zero)))))) l s = omega (arith, s.0, s.1.0, s.1.1.0, s.1.1.1.0, s.1.1.1.1.0, s.1.1.1.1.1.0, s.1.1.1.1.1.1.0, s.1.1.1.1.1.1.1.0)
first_of a b c d e f g h (suc (suc (suc (suc (suc (suc (suc zero))))))) l s = omega (arith, s.0, s.1.0, s.1.1.0, s.1.1.1.0, s.1.1.1.1.0, s.1.1.1.1.1.0, s.1.1.1.1.1.1.0, s.1.1.1.1.1.1.1.0)
first_of a b c d e f g h (suc (suc (suc (suc (suc (suc (suc (suc n)))))))) l s = absurd (omega (arith, l))

pub first_word : (count : ℕ) (bytes : List ℕ) → count ≤ 7 → length bytes ≡ 8 → AreBytes bytes → (72057594037927936 + from_be_bytes w64 bytes / 256) / 2 ^ (56 - 8 * count) ≡ word_of (take count bytes)
unfolding word_of
first_word count [] l s t = absurd (omega (arith, s))
first_word count (a ∷ []) l s t = absurd (omega (arith, s))
first_word count (a ∷ b ∷ []) l s t = absurd (omega (arith, s))
first_word count (a ∷ b ∷ c ∷ []) l s t = absurd (omega (arith, s))
first_word count (a ∷ b ∷ c ∷ d ∷ []) l s t = absurd (omega (arith, s))
first_word count (a ∷ b ∷ c ∷ d ∷ e ∷ []) l s t = absurd (omega (arith, s))
first_word count (a ∷ b ∷ c ∷ d ∷ e ∷ f ∷ []) l s t = absurd (omega (arith, s))
first_word count (a ∷ b ∷ c ∷ d ∷ e ∷ f ∷ g ∷ []) l s t = absurd (omega (arith, s))
first_word count (a ∷ b ∷ c ∷ d ∷ e ∷ f ∷ g ∷ h ∷ []) l s t = first_of a b c d e f g h count l t
first_word count (a ∷ b ∷ c ∷ d ∷ e ∷ f ∷ g ∷ h ∷ i ∷ rest) l s t = absurd (omega (arith, s))

-- ---- bytes with zeros behind them
pub padded_full : (n : ℕ) (xs : List ℕ) → n ≤ length xs → padded n xs ≡ take n xs
unfolding padded
padded_full zero xs l = refl
padded_full (suc n) [] l = absurd (omega (arith, l))
padded_full (suc n) (x ∷ xs) l = ap (λ (ys : List ℕ). x ∷ ys) (padded_full n xs (omega (arith, l)))

pub take_padded : (k n : ℕ) (xs : List ℕ) → k ≤ n → k ≤ length xs → take k (padded n xs) ≡ take k xs
unfolding padded
take_padded zero n xs l m = refl
take_padded (suc k) zero xs l m = absurd (omega (arith, l))
take_padded (suc k) (suc n) [] l m = absurd (omega (arith, m))
take_padded (suc k) (suc n) (x ∷ xs) l m = ap (λ (ys : List ℕ). x ∷ ys) (take_padded k n xs (omega (arith, l)) (omega (arith, m)))

-- ---- each of them is a byte
all_bytes : (xs : List ℕ) → ((i : ℕ) → get_or xs i 0 < 256) → AreBytes xs
all_bytes [] h = tt
all_bytes (x ∷ xs) h = (h 0, all_bytes xs (λ i. h (suc i)))

bytes_take : (n : ℕ) (xs : List ℕ) → AreBytes xs → AreBytes (take n xs)
bytes_take zero xs a = tt
bytes_take (suc n) [] a = tt
bytes_take (suc n) (x ∷ xs) a = (a.0, bytes_take n xs a.1)

bytes_drop : (n : ℕ) (xs : List ℕ) → AreBytes xs → AreBytes (drop n xs)
bytes_drop zero xs a = a
bytes_drop (suc n) [] a = tt
bytes_drop (suc n) (x ∷ xs) a = bytes_drop n xs a.1

bytes_padded : (n : ℕ) (xs : List ℕ) → AreBytes xs → AreBytes (padded n xs)
unfolding padded
bytes_padded zero xs a = tt
bytes_padded (suc n) [] a = (omega arith, bytes_padded n [] tt)
bytes_padded (suc n) (x ∷ xs) a = (a.0, bytes_padded n xs a.1)

pub slice_bytes : (xs : List ℕ) (a b : ℕ) → ((i : ℕ) → get_or xs i 0 < 256) → AreBytes (slice_range xs a b)
slice_bytes xs a b h = bytes_take _ _ (bytes_drop a xs (all_bytes xs h))

pub eight_bytes : (xs : List ℕ) (a : ℕ) → ((i : ℕ) → get_or xs i 0 < 256) → AreBytes (padded 8 (drop a xs))
eight_bytes xs a h = bytes_padded 8 _ (bytes_drop a xs (all_bytes xs h))

pub length_padded : (n : ℕ) (xs : List ℕ) → length (padded n xs) ≡ n
unfolding padded
length_padded zero xs = refl
length_padded (suc n) [] = ap suc (length_padded n [])
length_padded (suc n) (x ∷ xs) = ap suc (length_padded n xs)

-- ---- the last eight bytes
width : (xs : List ℕ) (a b : ℕ) → a ≤ b → b ≤ length xs → length (slice_range xs a b) ≡ b - a
width xs a b up inside = length-take-le (b - a) (drop a xs) (omega (arith, length-drop a xs))

pub few_marked : (xs : List ℕ) (a b : ℕ) → a ≤ b → b ≤ length xs → b - a < 8 → 0 ≡ mark_of (slice_range xs a b)
unfolding mark_of
few_marked xs a b up inside few =
    let less : nat_lt (length (slice_range xs a b)) 8 ≡ true = grind (arith, nat_tests, width xs a b up inside, few) in
    rw less refl

pub many_marked : (xs : List ℕ) (a b : ℕ) → a + 8 ≤ b → b ≤ length xs → from_be_bytes w64 (slice_range xs (b - 8) (b - 8 + 8)) ≡ mark_of (slice_range xs a b)
unfolding mark_of
many_marked xs a b up inside =
    let k = b - a - 8 in
    let part = slice_range xs a b in
    let size : length part ≡ b - a = width xs a b (omega (arith, up)) inside in
    let more : nat_lt (length part) 8 ≡ false = grind (arith, nat_tests, size, up) in
    let amount : b - 8 + 8 - (b - 8) ≡ 8 = omega arith in
    let first : length part - 8 ≡ k = omega (arith, size) in
    let second : b - a ≡ k + 8 = omega (arith, up) in
    let third : a + k ≡ b - 8 = omega (arith, up) in
    let last : drop (length part - 8) part ≡ take 8 (drop (b - 8) xs) =
    ap (λ (n : ℕ). drop n part) first ∙ ap (λ (n : ℕ). drop k (take n (drop a xs))) second
    ∙ drop-take k 8 (drop a xs) ∙ ap (take 8) (drop-drop k a xs ∙ ap (λ (n : ℕ). drop n xs) third) in
    rw more (ap (from_be_bytes w64) (ap (λ (n : ℕ). take n (drop (b - 8) xs)) amount ∙ sym last))
