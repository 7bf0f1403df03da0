use Rattle.std.proofs.Common.{ℕ, ◌≡◌, ◌<◌, List, [], ◌∷◌, length, take, slice_set, refl, arith}
use Rattle.tab_csv.proofs.source.LineSource.close.Goals as goal

set_first : (bytes : List ℕ) → 0 < length bytes → take 1 (slice_set bytes 0 10) ≡ 10 ∷ []
set_first [] lt = let no : ⊥ = omega (arith, lt) in absurd no
set_first (b ∷ bs) lt = refl

pub returns-clause-byte : goal.returns-clause-byte
returns-clause-byte g c = set_first c.args.buf.now c.requires
