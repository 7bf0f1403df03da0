-- Of 16 bytes that are read as one number, what the first ones spell with zeros behind them.
use Rattle.std.proofs.Common.{◌≡◌, ◌∙◌, ℕ, zero, suc, ◌+◌, ◌*◌, ◌-◌, ◌/◌, ◌^◌, ◌<◌, ◌≤◌, List, [], ◌∷◌, refl, sym, ap, subst, length, take, get_or, arith}
use Rattle.std.specs.List.{AllByRecursion}
use Rattle.std.specs.Int.{from_be_bytes, w128}
use Rattle.std.proofs.lemmas.List.{length-take-le}
use Rattle.std.proofs.lemmas.Nat.{pow-add}
use Rattle.std.proofs.Math.Nat.{add-mul, div-eq_of_lt, mul-add-div_right, mul_assoc, pow-suc, zero-div, zero-mul}
use Rattle.tab_key.specs.RowPrefix.{padded, IsRowPrefix}
use Rattle.tab_key.specs.Words.{worth}
use Rattle.tab_key.proofs.BigEndian.{worth_bound, is_worth}
use Rattle.tab_key.proofs.RowPrefix.{bytes_padded}
use Rattle.tab_key.proofs.WordLaws.{length_padded}

-- ---- powers
power : (n : ℕ) → 0 < 256 ^ n
power zero = omega arith
power (suc n) = omega (arith, pow-suc 256 n, power n)

in_bits : (n : ℕ) → 256 ^ n ≡ 2 ^ (8 * n)
in_bits zero = refl
in_bits (suc n) =
    let more : 8 * suc n ≡ 8 + 8 * n = omega arith in
    let both : 2 ^ (8 * suc n) ≡ 2 ^ 8 * 2 ^ (8 * n) = ap (λ (k : ℕ). 2 ^ k) more ∙ pow-add 2 8 (8 * n) in
    omega (arith, both, pow-suc 256 n, in_bits n)

-- ---- a byte that stays
apart : (a w p : ℕ) → 0 < p → (a * p + w) / p * p ≡ a * p + w / p * p
apart a w p pos = ap (λ (n : ℕ). n * p) (mul-add-div_right pos a w) ∙ add-mul a (w / p) p

stays : (m gap x w v : ℕ) → gap ≤ m → w / 256 ^ gap * 256 ^ gap ≡ v → (x * 256 ^ m + w) / 256 ^ gap * 256 ^ gap ≡ x * 256 ^ m + v
stays m gap x w v l e =
    let p = 256 ^ gap in
    let q = 256 ^ (m - gap) in
    let sum : m ≡ m - gap + gap = omega (arith, l) in
    let size : 256 ^ m ≡ q * p = ap (λ (n : ℕ). 256 ^ n) sum ∙ pow-add 256 (m - gap) gap in
    let whole : x * 256 ^ m ≡ x * q * p = ap (λ (n : ℕ). x * n) size ∙ sym (mul_assoc x q p) in
    ap (λ (n : ℕ). (n + w) / p * p) whole
    ∙ apart (x * q) w p (power gap)
    ∙ ap (λ (n : ℕ). n + w / p * p) (sym whole)
    ∙ ap (λ (n : ℕ). x * 256 ^ m + n) e

-- ---- all bytes
zeros : (n : ℕ) → worth (padded n []) ≡ 0
unfolding padded
zeros zero = refl
zeros (suc n) = omega (arith, zeros n)

bytes_taken : (n : ℕ) (xs : List ℕ) → ((i : ℕ) → get_or xs i 0 < 256) → AllByRecursion (λ b. b < 256) (take n xs)
bytes_taken zero xs h = tt
bytes_taken (suc n) [] h = tt
bytes_taken (suc n) (x ∷ xs) h = (h 0, bytes_taken n xs (λ i. h (suc i)))

each_taken : (n : ℕ) (xs : List ℕ) → ((i : ℕ) → get_or xs i 0 < 256) → (i : ℕ) → get_or (take n xs) i 0 < 256
each_taken zero xs h i = omega arith
each_taken (suc n) [] h i = omega arith
each_taken (suc n) (x ∷ xs) h zero = h 0
each_taken (suc n) (x ∷ xs) h (suc i) = each_taken n xs (λ j. h (suc j)) i

none_stays : (n : ℕ) (xs : List ℕ) → length xs ≡ n → AllByRecursion (λ b. b < 256) xs → worth xs / 256 ^ n * 256 ^ n ≡ 0
none_stays n xs s a =
    let low : worth xs < 256 ^ n = subst (λ (k : ℕ). worth xs < 256 ^ k) s (worth_bound xs a) in
    ap (λ (k : ℕ). k * 256 ^ n) (div-eq_of_lt low) ∙ zero-mul (256 ^ n)

-- what is left of the first n bytes, where those behind the first `count` ones are taken for zeros
cut_worth : (n count gap : ℕ) (xs : List ℕ) → gap ≡ n - count → n ≤ length xs → ((i : ℕ) → get_or xs i 0 < 256) → worth (take n xs) / 256 ^ gap * 256 ^ gap ≡ worth (padded n (take count xs))
unfolding padded
cut_worth zero count gap xs e l h = ap (λ (k : ℕ). k * 256 ^ gap) (zero-div (256 ^ gap)) ∙ zero-mul (256 ^ gap)
cut_worth (suc m) zero gap xs e l h =
    let all : gap ≡ suc m = omega (arith, e) in
    none_stays gap (take (suc m) xs) (length-take-le (suc m) xs l ∙ sym all) (bytes_taken (suc m) xs h) ∙ sym (zeros (suc m))
cut_worth (suc m) (suc k) gap [] e l h = absurd (omega (arith, l))
cut_worth (suc m) (suc k) gap (x ∷ xs) e l h =
    let less : gap ≡ m - k = omega (arith, e) in
    let inside : m ≤ length xs = omega (arith, l) in
    let long : length (take m xs) ≡ m = length-take-le m xs inside in
    let wide : length (padded m (take k xs)) ≡ m = length_padded m (take k xs) in
    ap (λ (n : ℕ). (x * 256 ^ n + worth (take m xs)) / 256 ^ gap * 256 ^ gap) long
    ∙ stays m gap x (worth (take m xs)) (worth (padded m (take k xs))) (omega (arith, less)) (cut_worth m k gap xs less inside (λ i. h (suc i)))
    ∙ ap (λ (n : ℕ). x * 256 ^ n + worth (padded m (take k xs))) (sym wide)

-- ---- 16 bytes
pub cut_prefix : (count gap number result : ℕ) (xs : List ℕ) → 16 ≤ length xs → ((i : ℕ) → get_or xs i 0 < 256) → gap ≡ 8 * (16 - count) → number ≡ from_be_bytes w128 (take 16 xs) → result ≡ number / 2 ^ gap * 2 ^ gap → IsRowPrefix result (take count xs)
cut_prefix count gap number result xs long bytes width is e =
    let size : 2 ^ gap ≡ 256 ^ (16 - count) = ap (λ (k : ℕ). 2 ^ k) width ∙ sym (in_bits (16 - count)) in
    let told : number ≡ worth (take 16 xs) = is ∙ is_worth (take 16 xs) (length-take-le 16 xs long) in
    record {
      value =
          e
          ∙ ap (λ (k : ℕ). number / k * k) size
          ∙ ap (λ (k : ℕ). k / 256 ^ (16 - count) * 256 ^ (16 - count)) told
          ∙ cut_worth 16 count (16 - count) xs refl long bytes
          ∙ sym (is_worth (padded 16 (take count xs)) (length_padded 16 (take count xs)));
      bytes = bytes_padded 16 (take count xs) (each_taken count xs bytes);
    }
