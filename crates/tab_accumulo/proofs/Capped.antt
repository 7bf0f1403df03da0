-- Sums up to the greatest number of the code.
use Rattle.std.proofs.Common.{◌≡◌, ℕ, ◌+◌, ◌<◌, List, length, take, get_or, arith}
use Rattle.std.specs.Prelude.{sum_by}
use Rattle.std.proofs.lemmas.List.Sums.{sum_by_more}
use Rattle.tab_accumulo.specs.Counting.{capped}

pub capped_sum : (a b x y : ℕ) → x ≡ capped a → capped y ≡ capped b → capped (x + y) ≡ capped (a + b)
capped_sum a b x y first second = omega arith

-- one more of the list
pub capped_more : {X : Type 0} (f : X → ℕ) (xs : List X) (i : ℕ) (d : X) (left more : ℕ) → i < length xs → left ≡ capped (sum_by f (take i xs)) → capped more ≡ capped (f (get_or xs i d))
    → capped (left + more) ≡ capped (sum_by f (take (i + 1) xs))
capped_more f xs i d left more there so_far next =
    let s : ℕ = sum_by f (take i xs) in
    let n : ℕ = f (get_or xs i d) in
    let grown : sum_by f (take (i + 1) xs) ≡ s + n = sum_by_more f xs i d there in
    omega (arith, grown, so_far, next)
