-- Names.
use Rattle.std.proofs.Common.{ℕ, ◌≡◌, true, false, cond, List, refl, sym, ap, ◌∙◌, arith, Some, None, Option}
use Rattle.std.proofs.lemmas.Bool.Decides.{nat_tests}
use Rattle.std.specs.Prelude.{IsSome, IfSome, ◌↔◌}
use Rattle.tab_key.specs.Names.{IsName}
use Rattle.tab_codec.specs.Reading.{only_if, is_name}

-- what passes the test is a name
pub name_is : (bs : List ℕ) → is_name bs ≡ true → IsName bs
name_is bs is = (grind (arith, nat_tests), grind (arith, nat_tests), grind (arith, nat_tests))

-- a name passes the test
pub name_passes : (bs : List ℕ) → IsName bs → is_name bs ≡ true
name_passes bs h = grind (arith, nat_tests, h)

-- a test that answers exactly at names, and gives the bytes, is the test of names
pub named : (bs : List ℕ) (r : Option (List ℕ)) → (IsSome r ↔ IsName bs) → IfSome r (λ n. n ≡ bs) → r ≡ only_if is_name bs
named bs None iff value =
    elim (is_name bs) as (λ b. is_name bs ≡ b → None ≡ cond b (Some bs) None) [
      | true ↦ λ is. let no : false ≡ true = iff.1 (name_is bs is) in absurd cc
      | false ↦ λ is. refl
    ] refl
named bs (Some n) iff value = ap (λ x. Some x) value ∙ sym (ap (λ b. cond b (Some bs) None) (name_passes bs (iff.0 refl)))
