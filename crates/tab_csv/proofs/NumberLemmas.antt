-- Whole numbers, as std reads them.
use Rattle.std.proofs.Common.{ℕ, ℤ, ◌≡◌, ◌<◌, ◌^◌, Bool, true, false, cond, List, [], ◌∷◌, length, Option, Some, None, refl, sym, ap, ◌∙◌}
use Rattle.std.specs.Prelude.{Result, Ok, Err, nat_lt, ◌&&◌}
use lib.Signed.{mag}
use Rattle.std.specs.Int.{w64}
use Rattle.std.specs.Char.{is_digit}
use Rattle.std.specs.List.{list_all}
use Rattle.std.specs.Result.{result_ok}
use Rattle.std.specs.Str.{IsUtf8, is_utf8}
use Rattle.std.specs.Str.Parse.{AllDigits, IsNumeral, ParsesSigned, without_leading_sign, signed_digits_value}
use Rattle.std.proofs.lemmas.Bool.{and_from, and_parts, lt-ltb, ltb-true}
use Rattle.std.proofs.lemmas.Str.{is_utf8-from_IsUtf8, IsUtf8-from_is_utf8}
use Rattle.tab_csv.specs.Meaning.{is_numeral, is_whole, whole_number}

digits_pass : (ds : List ℕ) → AllDigits 10 ds → list_all (λ c. is_digit c 10) ds ≡ true
digits_pass [] h = refl
digits_pass (c ∷ cs) h = and_from _ _ (lt-ltb _ _ h.0) (digits_pass cs h.1)

digits_are : (ds : List ℕ) → list_all (λ c. is_digit c 10) ds ≡ true → AllDigits 10 ds
digits_are [] h = tt
digits_are (c ∷ cs) h = let two = and_parts (is_digit c 10) (list_all (λ c. is_digit c 10) cs) h in (ltb-true _ _ two.0, digits_are cs two.1)

numeral_passes : (ds : List ℕ) → IsNumeral 10 ds → is_numeral ds ≡ true
numeral_passes ds h = and_from _ _ (lt-ltb _ _ h.0) (digits_pass ds h.1)

numeral_is : (ds : List ℕ) → is_numeral ds ≡ true → IsNumeral 10 ds
numeral_is ds h = let two = and_parts (nat_lt 0 (length ds)) (list_all (λ c. is_digit c 10) ds) h in (ltb-true _ _ two.0, digits_are ds two.1)

-- what `parse` gives is the number of the text
pub parsed : {E : Type 0} (bs : List ℕ) (r : Result ℤ E) → IsUtf8 bs → ParsesSigned w64 10 bs r → result_ok r ≡ whole_number bs
unfolding whole_number
parsed bs (Ok z) utf8 h =
    let fits : nat_lt (mag (signed_digits_value 10 bs)) (2 ^ 63) ≡ true = lt-ltb _ _ h.0.1.sfits in
    let test : is_whole bs ≡ true = and_from _ _ (is_utf8-from_IsUtf8 bs utf8) (and_from _ _ (numeral_passes (without_leading_sign bs) h.0.0) fits) in
    ap (λ x. Some x) h.1 ∙ sym (ap (λ b. cond b (Some (signed_digits_value 10 bs)) None) test)
parsed bs (Err e) utf8 h =
    elim (is_whole bs) as (λ b. is_whole bs ≡ b → None ≡ cond b (Some (signed_digits_value 10 bs)) None) [
      | true ↦ λ is.
          let first = and_parts (is_utf8 bs) (is_numeral (without_leading_sign bs) && nat_lt (mag (signed_digits_value 10 bs)) (2 ^ 63)) is in
          let second = and_parts (is_numeral (without_leading_sign bs)) (nat_lt (mag (signed_digits_value 10 bs)) (2 ^ 63)) first.1 in
          absurd (h (numeral_is (without_leading_sign bs) second.0, record { sfits = ltb-true _ _ second.1 }))
      | false ↦ λ is. refl
    ] refl

-- what is no text is no number
pub no_text : (bs : List ℕ) → ¬ (IsUtf8 bs) → whole_number bs ≡ None
unfolding whole_number
no_text bs none =
    elim (is_whole bs) as (λ b. is_whole bs ≡ b → cond b (Some (signed_digits_value 10 bs)) None ≡ None) [
      | true ↦ λ is.
          let first = and_parts (is_utf8 bs) (is_numeral (without_leading_sign bs) && nat_lt (mag (signed_digits_value 10 bs)) (2 ^ 63)) is in
          absurd (none (IsUtf8-from_is_utf8 bs first.0))
      | false ↦ λ is. refl
    ] refl
