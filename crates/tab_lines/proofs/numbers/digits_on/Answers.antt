use Rattle.std.proofs.Common.{◌≡◌, ◌^◌, ℕ, suc, List, None, Some, cond, drop, get_or, sym, ap, ◌∙◌, arith, rules, drop-cons}
use Rattle.std.specs.Prelude.{nat_lt, Option}
use Rattle.std.specs.Option.{option_and_then}
use Rattle.std.proofs.lemmas.Bool.{lt-ltb}
use Rattle.std.proofs.lemmas.List.{drop_all}
use Rattle.tab_lines.specs.Fields.{digits_on, only_if, with_digit}
use Rattle.tab_lines.proofs.NumberLemmas.{stopped}
use Rattle.tab_lines.proofs.numbers.digits_on.Goals as goal

fits : Option ℕ → Option ℕ
fits = option_and_then (only_if (λ n. nat_lt n (2 ^ 64)))

pub returns-in_default : goal.returns-in_default
unfolding fits
returns-in_default c =
    let d : List ℕ = c.args.digits.now in
    let i : ℕ = c.loop-digit.digit-index in
    let n : ℕ = c.loop-digit.n in
    let none : with_digit n (get_or d i 0) ≡ None = search rules in
    ap fits (sym c.loop-digit.invariant.reads) ∙ ap (λ (ds : List ℕ). fits (digits_on n ds)) (drop-cons d i 0 c.loop-digit-test.true) ∙ stopped n (get_or d i 0) (drop (suc i) d) none

pub returns : goal.returns
unfolding fits
returns c =
    let d : List ℕ = c.args.digits.now in
    let n : ℕ = c.loop-digit.n in
    ap fits (sym c.loop-digit.invariant.reads) ∙ ap (λ (ds : List ℕ). fits (digits_on n ds)) (drop_all c.loop-digit.digit-index d (omega arith)) ∙ ap (λ b. cond b (Some n) None) (lt-ltb _ _ c.loop-digit.invariant.fits)
