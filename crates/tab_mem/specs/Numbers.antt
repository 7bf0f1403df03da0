-- For proofs. How far among rising numbers those go that are below another one.
use Rattle.std.specs.Prelude.{ℕ, List, nat_lt}
use Rattle.std.specs.List.{prefix_len}

-- how many of the first numbers are below the bound
abbrev pub count_below : ℕ → List ℕ → ℕ
count_below bound ns = prefix_len (λ n. nat_lt n bound) ns
