-- Digits one after another.
use Rattle.std.proofs.Common.{ℕ, ◌≡◌, ◌+◌, ◌-◌, ◌≤◌, true, false, cond, List, [], ◌∷◌, refl, ap, arith, Some, None, Option}
use Rattle.std.specs.Prelude.{nat_lt, ◌^◌, ◌*◌}
use Rattle.std.proofs.lemmas.Bool.{ltb-false, le-ltb}
use Rattle.std.specs.Option.{option_and_then}
use Rattle.std.specs.Char.{is_ascii_digit}
use Rattle.tab_lines.specs.Fields.{only_if, digits_on, with_digit}

abbrev fitting : Option ℕ → Option ℕ
fitting = option_and_then (only_if (λ n. nat_lt n (2 ^ 64)))

-- a number that is too large stays so
exceeds : (n : ℕ) (cs : List ℕ) → 2 ^ 64 ≤ n → fitting (digits_on n cs) ≡ None
exceeds n [] big = ap (λ b. cond b (Some n) None) (le-ltb _ _ big)
exceeds n (c ∷ cs) big =
    elim (is_ascii_digit c) as (λ b. fitting (cond b (digits_on (10 * n + (c - 48)) cs) None) ≡ None) [
      | true ↦ exceeds (10 * n + (c - 48)) cs (omega arith)
      | false ↦ refl
    ]

pub stopped : (n c : ℕ) (cs : List ℕ) → with_digit n c ≡ None → fitting (digits_on n (c ∷ cs)) ≡ None
stopped n c cs none =
    let m : ℕ = 10 * n + (c - 48) in
    elim (is_ascii_digit c) as (λ b. cond b (cond (nat_lt m (2 ^ 64)) (Some m) None) None ≡ None → fitting (cond b (digits_on m cs) None) ≡ None) [
      | true ↦ λ (h : cond (nat_lt m (2 ^ 64)) (Some m) None ≡ None). exceeds m cs (elim (nat_lt m (2 ^ 64)) as (λ b. nat_lt m (2 ^ 64) ≡ b → cond b (Some m) None ≡ None → 2 ^ 64 ≤ m) [
        | true ↦ λ is no. absurd cc
        | false ↦ λ is no. ltb-false _ _ is
      ] refl h)
      | false ↦ λ h. refl
    ] none
