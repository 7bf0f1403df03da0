-- Reading is exactly the spelling.
use Rattle.std.proofs.Common.{◌≡◌, ◌≢◌, ℕ, ◌+◌, ◌-◌, ◌*◌, ◌/◌, ◌%◌, ◌<◌, ◌==◌, true, false, cond, List, [], ◌∷◌, ◌++◌, length, refl, sym, ap, ◌∙◌, subst, inl, inr, arith, Option, Some, None}
use Rattle.std.specs.Prelude.{nat_le, nat_lt, ◌&&◌}
use Rattle.std.specs.Option.{option_map, option_and_then}
use Rattle.std.specs.Str.{bytes_eq}
use Rattle.std.proofs.lemmas.Bool.Decides.{nat_tests}
use Rattle.tab_text.specs.Words.{is_plain, hex_digit, hex_form, empty_word, IsEscapedByte, IsEscaped, IsWord}
use Rattle.tab_text.specs.Reading.{hex_value, put_before, unescaped, bytes_of, digit_fits}
use Rattle.tab_text.specs.declared.escape.Escape.{Escape}
use Rattle.tab_text.specs.declared.escape.Escape.TheVariants.{Outside, Backslash, Hex, High}
use Rattle.tab_text.proofs.Spelling.{reads_on, map_none, read_plain, read_slash, read_hex, read_some, bytes_same, some_bytes}

-- what has been read of an escape
abbrev begun : Escape → List ℕ
begun Outside = []
begun Backslash = 92 ∷ []
begun Hex = 92 ∷ 120 ∷ []
begun (High h) = 92 ∷ 120 ∷ hex_digit h ∷ []

-- what stands behind the first byte
behind : (b : ℕ) (o : Option (List ℕ)) (bytes : List ℕ) → option_map (λ bs. b ∷ bs) o ≡ Some bytes → (rest : List ℕ) × (o ≡ Some rest) × (b ∷ rest ≡ bytes)
behind b None bytes is = absurd cc
behind b (Some rest) bytes is = (rest, refl, cc)

-- the digit whose value it is
digit_of : (d v : ℕ) → hex_value d ≡ Some v → (v < 16) × (hex_digit v ≡ d)
digit_of d v is =
    elim (nat_le 48 d && nat_le d 57) as (λ t. (nat_le 48 d && nat_le d 57) ≡ t → cond t (Some (d - 48)) (cond (nat_le 97 d && nat_le d 102) (Some (d - 87)) None) ≡ Some v → (v < 16) × (hex_digit v ≡ d)) [
      | true ↦ λ low some. let same : d - 48 ≡ v = cc in (grind (arith, nat_tests), grind (arith, nat_tests))
      | false ↦ λ other. elim (nat_le 97 d && nat_le d 102) as (λ t. (nat_le 97 d && nat_le d 102) ≡ t → cond t (Some (d - 87)) None ≡ Some v → (v < 16) × (hex_digit v ≡ d)) [
        | true ↦ λ low some. let same : d - 87 ≡ v = cc in (grind (arith, nat_tests), grind (arith, nat_tests))
        | false ↦ λ none some. absurd cc
      ] refl
    ] refl is

-- one byte and how it is written, and then the rest, escaped
one_more : (form text : List ℕ) (b : ℕ) (o : Option (List ℕ)) (bytes : List ℕ) → IsEscapedByte form b → ((rest : List ℕ) → o ≡ Some rest → IsEscaped text rest) → option_map (λ bs. b ∷ bs) o ≡ Some bytes → IsEscaped (form ++ text) bytes
one_more form text b o bytes one later is =
    let r = behind b o bytes is in
    let P : List ℕ → Type 0 = λ bs. IsEscaped (form ++ text) bs in
    subst P r.2 (form, text, one, later r.0 r.1, refl)

-- after a byte of an escape, reading goes on
abbrev goes_on : List ℕ → Option (Option ℕ × Escape) → Option (List ℕ)
goes_on rest = option_and_then (λ (next : Option ℕ × Escape). option_map (put_before next.0) (unescaped next.1 rest))

-- what is read is spelled so
spelled : (text bytes : List ℕ) (state : Escape) → digit_fits state ≡ true → unescaped state text ≡ Some bytes → IsEscaped (begun state ++ text) bytes
spelled [] bytes Outside fits read =
    let P : List ℕ → Type 0 = λ bs. IsEscaped [] bs in
    let same : [] ≡ bytes = cc in subst P same refl
spelled [] bytes Backslash fits read = absurd cc
spelled [] bytes Hex fits read = absurd cc
spelled [] bytes (High h) fits read = absurd cc
spelled (b ∷ bs) bytes Outside fits read =
    elim (is_plain b) as (λ t. is_plain b ≡ t → goes_on bs (cond t (Some (Some b, Outside)) (cond (b == 92) (Some (None, Backslash)) None)) ≡ Some bytes → IsEscaped (b ∷ bs) bytes) [
      | true ↦ λ is some. one_more (b ∷ []) bs b (unescaped Outside bs) bytes (inl (is, refl)) (λ rest. spelled bs rest Outside refl) some
      | false ↦ λ is. elim (b == 92) as (λ t. (b == 92) ≡ t → goes_on bs (cond t (Some (None, Backslash)) None) ≡ Some bytes → IsEscaped (b ∷ bs) bytes) [
        | true ↦ λ slash some.
            let same : 92 ≡ b = grind (arith, nat_tests) in
            let P : ℕ → Type 0 = λ n. IsEscaped (n ∷ bs) bytes in
            subst P same (spelled bs bytes Backslash refl (sym (map_none (unescaped Backslash bs)) ∙ some))
        | false ↦ λ other some. absurd cc
      ] refl
    ] refl read
spelled (b ∷ bs) bytes Backslash fits read =
    elim (b == 92) as (λ t. (b == 92) ≡ t → goes_on bs (cond t (Some (Some 92, Outside)) (cond (b == 120) (Some (None, Hex)) None)) ≡ Some bytes → IsEscaped (92 ∷ b ∷ bs) bytes) [
      | true ↦ λ slash some.
          let same : 92 ≡ b = grind (arith, nat_tests) in
          let P : ℕ → Type 0 = λ n. IsEscaped (92 ∷ n ∷ bs) bytes in
          subst P same (one_more (92 ∷ 92 ∷ []) bs 92 (unescaped Outside bs) bytes (inr (inl (refl, refl))) (λ rest. spelled bs rest Outside refl) some)
      | false ↦ λ other. elim (b == 120) as (λ t. (b == 120) ≡ t → goes_on bs (cond t (Some (None, Hex)) None) ≡ Some bytes → IsEscaped (92 ∷ b ∷ bs) bytes) [
        | true ↦ λ hex some.
            let same : 120 ≡ b = grind (arith, nat_tests) in
            let P : ℕ → Type 0 = λ n. IsEscaped (92 ∷ n ∷ bs) bytes in
            subst P same (spelled bs bytes Hex refl (sym (map_none (unescaped Hex bs)) ∙ some))
        | false ↦ λ no some. absurd cc
      ] refl
    ] refl read
spelled (b ∷ bs) bytes Hex fits read =
    elim (hex_value b) as (λ o. hex_value b ≡ o → goes_on bs (option_map (λ h. (None, High h)) o) ≡ Some bytes → IsEscaped (92 ∷ 120 ∷ b ∷ bs) bytes) [
      | None ↦ λ no some. absurd cc
      | Some h ↦ λ is some.
          let d = digit_of b h is in
          let small : nat_lt h 16 ≡ true = grind (arith, nat_tests, d.0) in
          let P : ℕ → Type 0 = λ n. IsEscaped (92 ∷ 120 ∷ n ∷ bs) bytes in
          subst P d.1 (spelled bs bytes (High h) small (sym (map_none (unescaped (High h) bs)) ∙ some))
    ] refl read
spelled (b ∷ bs) bytes (High h) fits read =
    elim (hex_value b) as (λ o. hex_value b ≡ o → goes_on bs (option_map (λ l. (Some (16 * h + l), Outside)) o) ≡ Some bytes → IsEscaped (92 ∷ 120 ∷ hex_digit h ∷ b ∷ bs) bytes) [
      | None ↦ λ no some. absurd cc
      | Some l ↦ λ is some.
          let d = digit_of b l is in
          let n : ℕ = 16 * h + l in
          let small : h < 16 = grind (arith, nat_tests, fits) in
          let byte : n < 256 = omega (arith, d.0, small) in
          let high : n / 16 ≡ h = omega (arith, d.0) in
          let low : n % 16 ≡ l = omega (arith, d.0, high) in
          let form : hex_form n ≡ 92 ∷ 120 ∷ hex_digit h ∷ b ∷ [] = ap (λ x. 92 ∷ 120 ∷ hex_digit x ∷ hex_digit (n % 16) ∷ []) high ∙ ap (λ x. 92 ∷ 120 ∷ hex_digit h ∷ hex_digit x ∷ []) low ∙ ap (λ x. 92 ∷ 120 ∷ hex_digit h ∷ x ∷ []) d.1 in
          one_more (92 ∷ 120 ∷ hex_digit h ∷ b ∷ []) bs n (unescaped Outside bs) bytes (inr (inr (byte, sym form))) (λ rest. spelled bs rest Outside refl) some
    ] refl read

-- a byte reads in each form
read_form : (form rest : List ℕ) (b : ℕ) → IsEscapedByte form b → unescaped Outside (form ++ rest) ≡ reads_on b rest
read_form form rest b (inl p) = ap (λ t. unescaped Outside (t ++ rest)) p.1 ∙ read_plain b rest p.0
read_form form rest b (inr (inl p)) = ap (λ t. unescaped Outside (t ++ rest)) p.1 ∙ read_slash rest ∙ ap (λ n. reads_on n rest) (sym p.0)
read_form form rest b (inr (inr p)) = ap (λ t. unescaped Outside (t ++ rest)) p.1 ∙ read_hex b rest p.0

-- what is spelled is read so
read_glyphs : (bytes text : List ℕ) → IsEscaped text bytes → unescaped Outside text ≡ Some bytes
read_glyphs [] text are = ap (unescaped Outside) are
read_glyphs (b ∷ bs) text are = ap (unescaped Outside) are.4 ∙ read_form are.0 are.1 b are.2 ∙ ap (option_map (λ xs. b ∷ xs)) (read_glyphs bs are.1 are.3)

-- a word that isn't the empty one
word_of_some : (text bytes : List ℕ) → cond (length text == 0) None (unescaped Outside text) ≡ Some bytes → IsWord text bytes
word_of_some [] bytes read = absurd cc
word_of_some (x ∷ xs) bytes read =
    let are : IsEscaped (x ∷ xs) bytes = spelled (x ∷ xs) bytes Outside refl (sym (ap (λ t. cond t None (unescaped Outside (x ∷ xs))) (some_bytes (length xs))) ∙ read) in
    let P : List ℕ → Type 0 = λ bs. IsEscaped (x ∷ xs) bs in
    let some : bytes ≢ [] = λ none. let h : x ∷ xs ≡ [] = subst P none are in absurd cc in
    inr (some, are)

pub word_read : (text bytes : List ℕ) → bytes_of text ≡ Some bytes → IsWord text bytes
unfolding bytes_of
word_read text bytes read =
    elim (bytes_eq text empty_word) as (λ t. bytes_eq text empty_word ≡ t → cond t (Some []) (cond (length text == 0) None (unescaped Outside text)) ≡ Some bytes → IsWord text bytes) [
      | true ↦ λ is some. let none : bytes ≡ [] = cc in inl (bytes_same text empty_word is, none)
      | false ↦ λ is some. word_of_some text bytes some
    ] refl read

-- the empty word reads as no byte
read_empty : bytes_of empty_word ≡ Some []
unfolding bytes_of
read_empty = refl

pub word_reads : (text bytes : List ℕ) → IsWord text bytes → bytes_of text ≡ Some bytes
word_reads text bytes (inl p) = ap bytes_of p.0 ∙ read_empty ∙ ap (λ bs. Some bs) (sym p.1)
word_reads text [] (inr p) = absurd (p.0 refl)
word_reads text (b ∷ bs) (inr p) = read_some text b bs (read_glyphs (b ∷ bs) text p.1)
