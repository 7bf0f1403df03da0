-- A number is exactly what is read of its digits.
use Rattle.std.proofs.Common.{ℕ, zero, suc, ◌≡◌, ◌≢◌, ◌+◌, ◌-◌, ◌≤◌, ◌<◌, ◌==◌, true, false, cond, List, [], ◌∷◌, ◌++◌, length, replicate, refl, sym, ap, ◌∙◌, subst, arith, append-nil, append_assoc, length-append, take, drop, Some, None, Option}
use Rattle.std.specs.Prelude.{ℤ, pos, negsuc, ◌*◌, ◌/◌, ◌%◌, ◌^◌, nat_le, nat_lt, ◌&&◌, codes}
use Rattle.std.specs.Option.{option_map, option_and_then}
use Rattle.std.specs.Str.{bytes_eq}
use Rattle.std.specs.Fmt.{decimal}
use Rattle.std.proofs.lemmas.Fmt.{decimal_digit, decimal_step, decimal_by_steps, decimal_nonempty}
use Rattle.std.proofs.lemmas.Bool.{ltb-true, lt-ltb}
use Rattle.std.proofs.lemmas.List.{take-append-drop}
use Rattle.std.proofs.lemmas.Bool.Decides.{nat_tests}
use Rattle.std.proofs.lemmas.Slice.Eq.{bytes_eq-Decides}
use Rattle.std.specs.Char.{is_ascii_digit}
use Rattle.tab_history.specs.Settings.{is_version_count}
use Rattle.tab_key.specs.declared.limited_part.TheConstants.{MAX_VERSIONS}
use Rattle.tab_lines.specs.Fields.{digits_on, magnitude_of, unsigned_of, small_of, positive, negative, signed_of, given_timestamp, timestamp_or_dash, only_if, version_count, versions_word}
use Rattle.tab_lines.specs.Forms.{AreDigits, IsNumber, IsUnsigned, IsSmall, IsTimestamp, IsVersionCount, IsVersions}
use Rattle.tab_lines.proofs.Inverting.{ReadsExactly, some_inj, on_map, on_then}

-- one more digit behind others
digits_snoc : (m : ℕ) (ds : List ℕ) (k c : ℕ) → digits_on m ds ≡ Some k → is_ascii_digit c ≡ true → digits_on m (ds ++ c ∷ []) ≡ Some (10 * k + (c - 48))
digits_snoc m [] k c is digit = ap (λ b. cond b (Some (10 * m + (c - 48))) None) digit ∙ ap (λ (n : ℕ). Some (10 * n + (c - 48))) (some_inj m k is)
digits_snoc m (d ∷ ds) k c is digit =
    elim (is_ascii_digit d) as (λ b. cond b (digits_on (10 * m + (d - 48)) ds) None ≡ Some k → cond b (digits_on (10 * m + (d - 48)) (ds ++ c ∷ [])) None ≡ Some (10 * k + (c - 48))) [
      | true ↦ λ e. digits_snoc (10 * m + (d - 48)) ds k c e digit
      | false ↦ λ e. absurd cc
    ] is

-- the decimal of a number reads as it
decimal_read : (n : ℕ) → n < 2 ^ 64 → digits_on 0 (decimal n) ≡ Some n
decimal_read n fits = decimal_by_steps (λ m ds. digits_on 0 ds ≡ Some m) one more n fits
  where
    one : (m : ℕ) → m < 10 → digits_on 0 ((48 + m) ∷ []) ≡ Some m
    one m lt =
        let digit : is_ascii_digit (48 + m) ≡ true = grind (arith, nat_tests) in
        let e : 10 * 0 + ((48 + m) - 48) ≡ m = omega arith in
        ap (λ b. cond b (Some (10 * 0 + ((48 + m) - 48))) None) digit ∙ ap (λ (k : ℕ). Some k) e

    more : (m : ℕ) (ds : List ℕ) → 10 ≤ m → digits_on 0 ds ≡ Some (m / 10) → digits_on 0 (ds ++ ((48 + m % 10) ∷ [])) ≡ Some m
    more m ds le read =
        let small : m % 10 < 10 = omega arith in
        let digit : is_ascii_digit (48 + m % 10) ≡ true = grind (arith, nat_tests) in
        let e : 10 * (m / 10) + ((48 + m % 10) - 48) ≡ m = omega arith in
        digits_snoc 0 ds (m / 10) (48 + m % 10) read digit ∙ ap (λ (k : ℕ). Some k) e

-- zeros in front change nothing
zeros_read : (zeros : ℕ) (ds : List ℕ) → digits_on 0 (replicate zeros 48 ++ ds) ≡ digits_on 0 ds
zeros_read zero ds = refl
zeros_read (suc zeros) ds = zeros_read zeros ds

-- digits make a number no smaller
digits_grow : (m n : ℕ) (cs : List ℕ) → digits_on m cs ≡ Some n → m ≤ n
digits_grow m n [] is = let e : m ≡ n = some_inj m n is in omega arith
digits_grow m n (c ∷ cs) is =
    elim (is_ascii_digit c) as (λ b. cond b (digits_on (10 * m + (c - 48)) cs) None ≡ Some n → m ≤ n) [
      | true ↦ λ e. let h = digits_grow (10 * m + (c - 48)) n cs e in omega arith
      | false ↦ λ e. absurd cc
    ] is

-- behind a number that isn't 0, the digits are the rest of the decimal
decimal_on : (m n : ℕ) (cs : List ℕ) → 0 < m → n < 2 ^ 64 → digits_on m cs ≡ Some n → decimal n ≡ decimal m ++ cs
decimal_on m n [] some fits is = ap decimal (sym (some_inj m n is)) ∙ sym (append-nil (decimal m))
decimal_on m n (c ∷ cs) some fits is =
    let k : ℕ = 10 * m + (c - 48) in
    elim (is_ascii_digit c) as (λ b. is_ascii_digit c ≡ b → cond b (digits_on k cs) None ≡ Some n → decimal n ≡ decimal m ++ (c ∷ cs)) [
      | true ↦ λ digit e.
          let low : 48 ≤ c = grind (arith, nat_tests) in
          let high : c ≤ 57 = grind (arith, nat_tests) in
          let le : k ≤ n = digits_grow k n cs e in
          let over : k / 10 ≡ m = omega arith in
          let under : 48 + k % 10 ≡ c = omega arith in
          decimal_on k n cs (omega arith) fits e
          ∙ ap (λ (ds : List ℕ). ds ++ cs) (decimal_step k (omega arith) (omega arith) ∙ ap (λ (q : ℕ). decimal q ++ ((48 + k % 10) ∷ [])) over ∙ ap (λ (d : ℕ). decimal m ++ (d ∷ [])) under)
          ∙ append_assoc (decimal m) (c ∷ []) cs
      | false ↦ λ digit e. absurd cc
    ] refl is

-- a first digit, and those behind it
digit_sound : (c : ℕ) (cs : List ℕ) (n : ℕ) → n < 2 ^ 64 → (digits_on 0 cs ≡ Some n → AreDigits (48 ∷ cs) n) → digits_on 0 (c ∷ cs) ≡ Some n → AreDigits (c ∷ cs) n
digit_sound c cs n fits leading is =
    elim (is_ascii_digit c) as (λ b. is_ascii_digit c ≡ b → cond b (digits_on (10 * 0 + (c - 48)) cs) None ≡ Some n → AreDigits (c ∷ cs) n) [
      | true ↦ λ digit e.
          elim (c == 48) as (λ z. (c == 48) ≡ z → AreDigits (c ∷ cs) n) [
            | true ↦ λ z. let zero : c ≡ 48 = grind (arith, nat_tests) in subst (λ (d : ℕ). AreDigits (d ∷ cs) n) (sym zero) (leading (subst (λ (d : ℕ). digits_on (10 * 0 + (d - 48)) cs ≡ Some n) zero e))
            | false ↦ λ z.
                let low : 48 ≤ c = grind (arith, nat_tests) in
                let high : c ≤ 57 = grind (arith, nat_tests) in
                let other : c ≢ 48 = grind (arith, nat_tests) in
                let m : ℕ = 10 * 0 + (c - 48) in
                let digit1 : decimal m ≡ (48 + m) ∷ [] = decimal_digit m (omega arith) in
                let back : 48 + m ≡ c = omega arith in
                (0, sym (decimal_on m n cs (omega arith) fits e ∙ ap (λ (ds : List ℕ). ds ++ cs) (digit1 ∙ ap (λ (d : ℕ). d ∷ []) back)))
          ] refl
      | false ↦ λ digit e. absurd cc
    ] refl is

-- digits that read as a number are zeros and its decimal
digits_sound : (cs : List ℕ) (c n : ℕ) → n < 2 ^ 64 → digits_on 0 (c ∷ cs) ≡ Some n → AreDigits (c ∷ cs) n
digits_sound [] c n fits is = digit_sound c [] n fits (λ e. (0, sym (decimal_digit 0 (omega arith)) ∙ ap (λ (k : ℕ). decimal k) (some_inj 0 n e))) is
digits_sound (d ∷ ds) c n fits is = digit_sound c (d ∷ ds) n fits (λ e. let h = digits_sound ds d n fits e in (suc h.0, ap (λ (t : List ℕ). 48 ∷ t) h.1)) is

-- one digit or more
magnitude_some : (c : ℕ) (cs : List ℕ) → magnitude_of (c ∷ cs) ≡ digits_on 0 (c ∷ cs)
unfolding magnitude_of
magnitude_some c cs = let some : (length (c ∷ cs) == 0) ≡ false = grind (arith, nat_tests) in ap (λ b. cond b None (digits_on 0 (c ∷ cs))) some

magnitude_sound : (text : List ℕ) (n : ℕ) → n < 2 ^ 64 → magnitude_of text ≡ Some n → AreDigits text n
unfolding magnitude_of
magnitude_sound [] n fits is = absurd cc
magnitude_sound (c ∷ cs) n fits is = digits_sound cs c n fits (sym (magnitude_some c cs) ∙ is)

magnitude_complete : (text : List ℕ) (n : ℕ) → n < 2 ^ 64 → AreDigits text n → magnitude_of text ≡ Some n
unfolding magnitude_of
magnitude_complete [] n fits (zeros, e) =
    let len : 0 ≡ length (replicate zeros 48 ++ decimal n) = ap (λ (t : List ℕ). length t) e in
    absurd (omega (arith, decimal_nonempty n fits, length-append (replicate zeros 48) (decimal n)))
magnitude_complete (c ∷ cs) n fits (zeros, e) = magnitude_some c cs ∙ ap (λ (t : List ℕ). digits_on 0 t) e ∙ zeros_read zeros (decimal n) ∙ decimal_read n fits

-- ---- without a sign

unsigned_sound : (word : List ℕ) (n : ℕ) → unsigned_of word ≡ Some n → IsUnsigned word n
unsigned_sound word n is = on_then (only_if (λ m. nat_lt m (2 ^ 64))) (magnitude_of word) n (IsUnsigned word n) is (λ m read one.
    elim (nat_lt m (2 ^ 64)) as (λ b. nat_lt m (2 ^ 64) ≡ b → cond b (Some m) None ≡ Some n → IsUnsigned word n) [
      | true ↦ λ fits e. subst (λ (k : ℕ). IsUnsigned word k) (some_inj m n e) (magnitude_sound word m (ltb-true _ _ fits) read, ltb-true _ _ fits)
      | false ↦ λ fits e. absurd cc
    ] refl one)

unsigned_complete : (word : List ℕ) (n : ℕ) → IsUnsigned word n → unsigned_of word ≡ Some n
unsigned_complete word n (are, fits) =
    ap (λ (o : Option ℕ). option_and_then (only_if (λ m. nat_lt m (2 ^ 64))) o) (magnitude_complete word n fits are)
    ∙ ap (λ b. cond b (Some n) None) (lt-ltb n (2 ^ 64) fits)

-- a number without a sign is exactly what is read of its word
pub unsigned_read : ReadsExactly unsigned_of IsUnsigned
unsigned_read = record { sound = unsigned_sound; complete = unsigned_complete }

-- ---- of 32 bits
small_sound : (word : List ℕ) (n : ℕ) → small_of word ≡ Some n → IsSmall word n
small_sound word n is = on_then (only_if (λ m. nat_lt m (2 ^ 32))) (unsigned_of word) n (IsSmall word n) is (λ m read one.
    elim (nat_lt m (2 ^ 32)) as (λ b. nat_lt m (2 ^ 32) ≡ b → cond b (Some m) None ≡ Some n → IsSmall word n) [
      | true ↦ λ fits e. subst (λ (k : ℕ). IsSmall word k) (some_inj m n e) ((unsigned_sound word m read).0, ltb-true _ _ fits)
      | false ↦ λ fits e. absurd cc
    ] refl one)

small_complete : (word : List ℕ) (n : ℕ) → IsSmall word n → small_of word ≡ Some n
small_complete word n (are, fits) =
    ap (λ (o : Option ℕ). option_and_then (only_if (λ m. nat_lt m (2 ^ 32))) o) (unsigned_complete word n (are, omega (arith, fits)))
    ∙ ap (λ b. cond b (Some n) None) (lt-ltb n (2 ^ 32) fits)

-- such a number is exactly what is read of its word
pub small_read : ReadsExactly small_of IsSmall
small_read = record { sound = small_sound; complete = small_complete }

-- ---- with a sign

positive_sound : (m : ℕ) (z : ℤ) → positive m ≡ Some z → (m < 2 ^ 63) × (z ≡ pos m)
positive_sound m z is =
    elim (nat_lt m (2 ^ 63)) as (λ b. nat_lt m (2 ^ 63) ≡ b → cond b (Some (pos m)) None ≡ Some z → (m < 2 ^ 63) × (z ≡ pos m)) [
      | true ↦ λ t e. (ltb-true _ _ t, sym (some_inj (pos m) z e))
      | false ↦ λ t e. absurd cc
    ] refl is

negative_sound : (m : ℕ) (z : ℤ) → negative m ≡ Some z → (0 < m) × (m ≤ 2 ^ 63) × (z ≡ negsuc (m - 1))
negative_sound m z is =
    elim (nat_lt 0 m && nat_le m (2 ^ 63)) as (λ b. (nat_lt 0 m && nat_le m (2 ^ 63)) ≡ b → cond b (Some (negsuc (m - 1))) None ≡ Some z → (0 < m) × (m ≤ 2 ^ 63) × (z ≡ negsuc (m - 1))) [
      | true ↦ λ t e. (grind (arith, nat_tests), grind (arith, nat_tests), sym (some_inj (negsuc (m - 1)) z e))
      | false ↦ λ t e. absurd cc
    ] refl is

number_sound : (word : List ℕ) (z : ℤ) → signed_of word ≡ Some z → IsNumber word z
number_sound [] z is = absurd cc
number_sound (c ∷ cs) z is =
    elim (c == 45) as (λ b. (c == 45) ≡ b → cond b (option_and_then negative (magnitude_of cs)) (option_and_then positive (magnitude_of (c ∷ cs))) ≡ Some z → IsNumber (c ∷ cs) z) [
      | true ↦ λ t e. on_then negative (magnitude_of cs) z (IsNumber (c ∷ cs) z) e (λ m read neg.
          let h = negative_sound m z neg in
          let minus : c ≡ 45 = grind (arith, nat_tests) in
          let back : m ≡ (m - 1) + 1 = omega (arith, h.0) in
          let digits : AreDigits cs ((m - 1) + 1) = subst (λ (k : ℕ). AreDigits cs k) back (magnitude_sound cs m (omega (arith, h.1)) read) in
          let fits : m - 1 < 2 ^ 63 = omega (arith, h.0, h.1) in
          subst (λ (y : ℤ). IsNumber (c ∷ cs) y) (sym h.2) (cs, ap (λ (d : ℕ). d ∷ cs) minus, digits, fits))
      | false ↦ λ t e. on_then positive (magnitude_of (c ∷ cs)) z (IsNumber (c ∷ cs) z) e (λ m read posi.
          let h = positive_sound m z posi in
          subst (λ (y : ℤ). IsNumber (c ∷ cs) y) (sym h.1) (magnitude_sound (c ∷ cs) m (omega (arith, h.0)) read, h.0))
    ] refl is

number_complete : (word : List ℕ) (z : ℤ) → IsNumber word z → signed_of word ≡ Some z
unfolding magnitude_of
number_complete word (pos n) is = plain word (magnitude_complete word n (omega (arith, is.1)) is.0)
  where
    plain : (text : List ℕ) → magnitude_of text ≡ Some n → signed_of text ≡ Some (pos n)
    plain [] read = absurd cc
    plain (c ∷ cs) read =
        elim (c == 45) as (λ b. (c == 45) ≡ b → cond b (option_and_then negative (magnitude_of cs)) (option_and_then positive (magnitude_of (c ∷ cs))) ≡ Some (pos n)) [
          | true ↦ λ t. let minus : c ≡ 45 = grind (arith, nat_tests) in let no : None ≡ Some n = sym (magnitude_some 45 cs) ∙ sym (ap (λ (d : ℕ). magnitude_of (d ∷ cs)) minus) ∙ read in absurd cc
          | false ↦ λ t. ap (λ (o : Option ℕ). option_and_then positive o) read ∙ ap (λ b. cond b (Some (pos n)) None) (lt-ltb n (2 ^ 63) is.1)
        ] refl
number_complete word (negsuc n) (digits, e, are, fits) =
    let read : magnitude_of digits ≡ Some (n + 1) = magnitude_complete digits (n + 1) (omega arith) are in
    let test : (nat_lt 0 (n + 1) && nat_le (n + 1) (2 ^ 63)) ≡ true = grind (arith, nat_tests) in
    let back : (n + 1) - 1 ≡ n = omega arith in
    ap (λ (t : List ℕ). signed_of t) e
    ∙ ap (λ (o : Option ℕ). option_and_then negative o) read
    ∙ ap (λ b. cond b (Some (negsuc ((n + 1) - 1))) None) test
    ∙ ap (λ (k : ℕ). Some (negsuc k)) back

-- a number is exactly what is read of its word
pub numbers_read : ReadsExactly signed_of IsNumber
numbers_read = record { sound = number_sound; complete = number_complete }

timestamp_sound : (word : List ℕ) (t : Option ℤ) → timestamp_or_dash word ≡ Some t → IsTimestamp word t
timestamp_sound word t is =
    elim (bytes_eq word (codes "-")) as (λ b. bytes_eq word (codes "-") ≡ b → cond b (Some None) (given_timestamp word) ≡ Some t → IsTimestamp word t) [
      | true ↦ λ yes e. subst (λ (o : Option ℤ). IsTimestamp word o) (some_inj None t e) ((bytes_eq-Decides word (codes "-")).0 yes)
      | false ↦ λ no e. on_map (λ z. Some z) (signed_of word) t (IsTimestamp word t) e (λ z read is'. subst (λ (o : Option ℤ). IsTimestamp word o) is' (number_sound word z read))
    ] refl is

timestamp_complete : (word : List ℕ) (t : Option ℤ) → IsTimestamp word t → timestamp_or_dash word ≡ Some t
unfolding magnitude_of
timestamp_complete word None is = ap (λ (w : List ℕ). timestamp_or_dash w) is
timestamp_complete word (Some z) is =
    let read : signed_of word ≡ Some z = number_complete word z is in
    elim (bytes_eq word (codes "-")) as (λ b. bytes_eq word (codes "-") ≡ b → cond b (Some None) (given_timestamp word) ≡ Some (Some z)) [
      | true ↦ λ yes.
          let here : signed_of word ≡ None = ap (λ (w : List ℕ). signed_of w) ((bytes_eq-Decides word (codes "-")).0 yes) ∙ dash in
          let no : None ≡ Some z = sym here ∙ read in absurd cc
      | false ↦ λ no. ap (λ o. option_map (λ x. Some x) o) read
    ] refl
  where
    dash : signed_of (codes "-") ≡ None
    dash = refl

-- a timestamp of one update among several is exactly what is read of its word
pub timestamps_read : ReadsExactly timestamp_or_dash IsTimestamp
timestamps_read = record { sound = timestamp_sound; complete = timestamp_complete }

-- ---- versions

count_sound : (word : List ℕ) (n : ℕ) → version_count word ≡ Some n → IsVersionCount word n
count_sound word n is = on_then (only_if is_version_count) (magnitude_of word) n (IsVersionCount word n) is (λ m read one.
    elim (is_version_count m) as (λ b. is_version_count m ≡ b → cond b (Some m) None ≡ Some n → IsVersionCount word n) [
      | true ↦ λ fits e.
          let low : 1 ≤ m = grind (arith, nat_tests) in
          let high : m ≤ MAX_VERSIONS = grind (arith, nat_tests) in
          subst (λ (k : ℕ). IsVersionCount word k) (some_inj m n e) (magnitude_sound word m (omega arith) read, low, high)
      | false ↦ λ fits e. absurd cc
    ] refl one)

count_complete : (word : List ℕ) (n : ℕ) → IsVersionCount word n → version_count word ≡ Some n
count_complete word n (are, low, high) =
    let fits : is_version_count n ≡ true = grind (arith, nat_tests) in
    ap (λ (o : Option ℕ). option_and_then (only_if is_version_count) o) (magnitude_complete word n (omega arith) are)
    ∙ ap (λ b. cond b (Some n) None) fits

-- a number of versions is exactly what is read of its word
pub counts_read : ReadsExactly version_count IsVersionCount
counts_read = record { sound = count_sound; complete = count_complete }

versions_sound : (word : List ℕ) (n : ℕ) → versions_word word ≡ Some n → IsVersions word n
versions_sound word n is =
    elim (bytes_eq (take 9 word) (codes "versions=")) as (λ b. bytes_eq (take 9 word) (codes "versions=") ≡ b → cond b (version_count (drop 9 word)) None ≡ Some n → IsVersions word n) [
      | true ↦ λ yes e.
          let whole : word ≡ codes "versions=" ++ drop 9 word = sym (take-append-drop 9 word) ∙ ap (λ (t : List ℕ). t ++ drop 9 word) ((bytes_eq-Decides (take 9 word) (codes "versions=")).0 yes) in
          (drop 9 word, whole, count_sound (drop 9 word) n e)
      | false ↦ λ no e. absurd cc
    ] refl is

versions_complete : (word : List ℕ) (n : ℕ) → IsVersions word n → versions_word word ≡ Some n
versions_complete word n (digits, e, count) = ap (λ (w : List ℕ). versions_word w) e ∙ count_complete digits n count

-- what versions= and a number say is exactly what is read of the word
pub versions_read : ReadsExactly versions_word IsVersions
versions_read = record { sound = versions_sound; complete = versions_complete }
