-- What is written reads back.
use Rattle.std.proofs.Common.{◌≡◌, ℕ, suc, ◌+◌, ◌*◌, ◌/◌, ◌%◌, ◌<◌, ◌==◌, true, false, cond, List, [], ◌∷◌, ◌++◌, length, get_or, refl, sym, ap, ◌∙◌, inl, inr, arith, Option, Some, None, Fits, w8}
use Rattle.std.specs.Option.{option_map, option_and_then}
use Rattle.std.specs.Str.{bytes_eq}
use Rattle.std.proofs.lemmas.Bool.Decides.{nat_tests}
use Rattle.std.proofs.lemmas.Slice.Eq.{bytes_eq-Decides}
use Rattle.tab_text.specs.Words.{is_plain, hex_digit, hex_form, escaped_byte, escaped, word, empty_word, IsEscapedByte, IsEscaped, IsWord}
use Rattle.tab_text.specs.Reading.{hex_value, put_before, unescaped, bytes_of}
use Rattle.tab_text.specs.declared.escape.Escape.{Escape}
use Rattle.tab_text.specs.declared.escape.Escape.TheVariants.{Outside, Backslash, High}

-- texts that test equal are equal
pub bytes_same : (a b : List ℕ) → bytes_eq a b ≡ true → a ≡ b
bytes_same a b is = (bytes_eq-Decides a b).0 is

pub some_bytes : (n : ℕ) → (suc n == 0) ≡ false
some_bytes n = grind (arith, nat_tests)

-- each of these is a byte
abbrev pub AreBytes : List ℕ → Type 0
AreBytes [] = Unit {0}
AreBytes (b ∷ bs) = (b < 256) × AreBytes bs

pub hex_value-hex_digit : (n : ℕ) → n < 16 → hex_value (hex_digit n) ≡ Some n
hex_value-hex_digit n lt = grind (arith, nat_tests)

-- reading one byte on
abbrev pub reads_on : ℕ → List ℕ → Option (List ℕ)
reads_on b rest = option_map (λ bs. b ∷ bs) (unescaped Outside rest)

pub map_none : (o : Option (List ℕ)) → option_map (put_before None) o ≡ o
map_none None = refl
map_none (Some bs) = refl

pub read_plain : (b : ℕ) (rest : List ℕ) → is_plain b ≡ true → unescaped Outside (b ∷ rest) ≡ reads_on b rest
read_plain b rest is = ap (λ t. option_and_then (λ (next : Option ℕ × Escape). option_map (put_before next.0) (unescaped next.1 rest)) (cond t (Some (Some b, Outside)) (cond (b == 92) (Some (None, Backslash)) None))) is

pub read_slash : (rest : List ℕ) → unescaped Outside (92 ∷ 92 ∷ rest) ≡ reads_on 92 rest
read_slash rest = map_none (reads_on 92 rest)

pub read_hex : (b : ℕ) (rest : List ℕ) → b < 256 → unescaped Outside (hex_form b ++ rest) ≡ reads_on b rest
read_hex b rest lt =
    let high : hex_value (hex_digit (b / 16)) ≡ Some (b / 16) = hex_value-hex_digit (b / 16) (omega arith) in
    let low : hex_value (hex_digit (b % 16)) ≡ Some (b % 16) = hex_value-hex_digit (b % 16) (omega arith) in
    let whole : 16 * (b / 16) + b % 16 ≡ b = omega arith in
    let after : (o : Option ℕ) → Option (List ℕ) =
    λ o. option_and_then (λ (next : Option ℕ × Escape). option_map (put_before next.0) (unescaped next.1 (hex_digit (b % 16) ∷ rest))) (option_map (λ h. (None, High h)) o) in
    let last : (o : Option ℕ) → Option (List ℕ) =
    λ o. option_and_then (λ (next : Option ℕ × Escape). option_map (put_before next.0) (unescaped next.1 rest)) (option_map (λ l. (Some (16 * (b / 16) + l), Outside)) o) in
    map_none (option_map (put_before None) (after (hex_value (hex_digit (b / 16))))) ∙ map_none (after (hex_value (hex_digit (b / 16)))) ∙ ap after high
    ∙ map_none (last (hex_value (hex_digit (b % 16)))) ∙ ap last low ∙ ap (λ n. reads_on n rest) whole

-- a byte and how it is written
read_escaped : (b : ℕ) (rest : List ℕ) → b < 256 → unescaped Outside (escaped_byte b ++ rest) ≡ reads_on b rest
read_escaped b rest lt =
    elim (is_plain b) as (λ t. is_plain b ≡ t → unescaped Outside (cond t (b ∷ []) (cond (b == 92) (92 ∷ 92 ∷ []) (hex_form b)) ++ rest) ≡ reads_on b rest) [
      | true ↦ λ is. read_plain b rest is
      | false ↦ λ is. elim (b == 92) as (λ t. (b == 92) ≡ t → unescaped Outside (cond t (92 ∷ 92 ∷ []) (hex_form b) ++ rest) ≡ reads_on b rest) [
        | true ↦ λ slash. let same : 92 ≡ b = grind (arith, nat_tests) in read_slash rest ∙ ap (λ n. reads_on n rest) same
        | false ↦ λ other. read_hex b rest lt
      ] refl
    ] refl

-- what is written reads back
pub unescaped-escaped : (bs : List ℕ) → AreBytes bs → unescaped Outside (escaped bs) ≡ Some bs
unescaped-escaped [] all = refl
unescaped-escaped (b ∷ bs) all = read_escaped b (escaped bs) all.0 ∙ ap (option_map (λ xs. b ∷ xs)) (unescaped-escaped bs all.1)

-- the form that is written is one that may be
escaped_byte_is : (b : ℕ) → b < 256 → IsEscapedByte (escaped_byte b) b
escaped_byte_is b lt =
    elim (is_plain b) as (λ t. is_plain b ≡ t → IsEscapedByte (cond t (b ∷ []) (cond (b == 92) (92 ∷ 92 ∷ []) (hex_form b))) b) [
      | true ↦ λ is. inl (is, refl)
      | false ↦ λ is. elim (b == 92) as (λ t. (b == 92) ≡ t → IsEscapedByte (cond t (92 ∷ 92 ∷ []) (hex_form b)) b) [
        | true ↦ λ slash. inr (inl (grind (arith, nat_tests), refl))
        | false ↦ λ other. inr (inr (lt, refl))
      ] refl
    ] refl

escaped_is : (bs : List ℕ) → AreBytes bs → IsEscaped (escaped bs) bs
escaped_is [] all = refl
escaped_is (b ∷ bs) all = (escaped_byte b, escaped bs, escaped_byte_is b all.0, escaped_is bs all.1, refl)

pub word_is : (bs : List ℕ) → AreBytes bs → IsWord (word bs) bs
word_is [] all = inl (refl, refl)
word_is (b ∷ bs) all = inr (λ same. absurd cc, escaped_is (b ∷ bs) all)

-- the bytes of a list that lies in memory
pub bytes_fit : (bs : List ℕ) → ((i : ℕ) → Fits w8 (get_or bs i 0)) → AreBytes bs
bytes_fit [] fit = tt
bytes_fit (b ∷ bs) fit = (omega (arith, fit 0), bytes_fit bs (λ i. fit (suc i)))

-- what no form writes is no word of some bytes
pub read_some : (text : List ℕ) (b : ℕ) (bs : List ℕ) → unescaped Outside text ≡ Some (b ∷ bs) → bytes_of text ≡ Some (b ∷ bs)
unfolding bytes_of
read_some text b bs read =
    elim (bytes_eq text empty_word) as (λ t. bytes_eq text empty_word ≡ t → cond t (Some []) (cond (length text == 0) None (unescaped Outside text)) ≡ Some (b ∷ bs)) [
      | true ↦ λ is.
          let same : text ≡ empty_word = bytes_same text empty_word is in
          let none : None ≡ Some (b ∷ bs) = ap (unescaped Outside) (sym same) ∙ read in
          absurd cc
      | false ↦ λ is. not_empty text read
    ] refl
  where
    not_empty : (text : List ℕ) → unescaped Outside text ≡ Some (b ∷ bs) → cond (length text == 0) None (unescaped Outside text) ≡ Some (b ∷ bs)
    not_empty [] read = absurd cc
    not_empty (x ∷ xs) read = ap (λ t. cond t None (unescaped Outside (x ∷ xs))) (some_bytes (length xs)) ∙ read

-- the word that is written reads back
pub bytes_of-word : (bs : List ℕ) → AreBytes bs → bytes_of (word bs) ≡ Some bs
unfolding bytes_of
bytes_of-word [] all = refl
bytes_of-word (b ∷ bs) all = read_some (escaped (b ∷ bs)) b bs (unescaped-escaped (b ∷ bs) all)
