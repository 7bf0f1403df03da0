-- Lengths as four bytes hold them.
use Rattle.std.proofs.Common.{◌≡◌, ℕ, ◌%◌, ◌/◌, ◌^◌, ◌∷◌, [], arith}
use Rattle.tab_codec.specs.Spelling.{u32}

-- four bytes hold a number up to 2^32
pub low_bytes : (n : ℕ) → u32 (n % 2 ^ 32) ≡ u32 n
unfolding u32
low_bytes n =
    let a : n % 4294967296 / 16777216 % 256 ≡ n / 16777216 % 256 = omega arith in
    let b : n % 4294967296 / 65536 % 256 ≡ n / 65536 % 256 = omega arith in
    let c : n % 4294967296 / 256 % 256 ≡ n / 256 % 256 = omega arith in
    let d : n % 4294967296 % 256 ≡ n % 256 = omega arith in
    (λ i. a i ∷ b i ∷ c i ∷ d i ∷ [])
