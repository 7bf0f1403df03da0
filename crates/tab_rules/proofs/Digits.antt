-- Texts of digits.
use Rattle.std.proofs.Common.{◌≡◌, ℕ, ◌<◌, List, [], ◌∷◌, refl, length, arith}
use Rattle.std.specs.Char.{is_ascii_digit}
use Rattle.std.specs.List.{list_all}
use Rattle.tab_rules.specs.Verdict.{is_digits}

-- where there is a byte, all bytes decide
pub digits_are : (xs : List ℕ) → 0 < length xs → is_digits xs ≡ list_all is_ascii_digit xs
digits_are [] some = absurd (omega (arith, some))
digits_are (x ∷ xs) some = refl
