-- A record is the same as itself, wherever its bytes lie.
use Rattle.std.proofs.Common.{◌≡◌, List, ℕ, true, refl, sym, ◌∙◌, ap, arith}
use Rattle.std.specs.Prelude.{bytes_eq, ◌==◌}
use Rattle.std.specs.Cmp.Lexicographic.{bytes_decides}
use Rattle.std.proofs.lemmas.Bool.Decides.{Decides-int_eq, nat_tests}
use Rattle.tab_key.specs.Encoding.{record_at}
use Rattle.tab_key.specs.Kept.{same_column}
use Rattle.tab_key.specs.Order.{kind_rank}
use Rattle.tab_key.specs.Records.{Record}
use Rattle.tab_key.specs.Same.{same_record}

bytes_itself : (b : List ℕ) → bytes_eq b b ≡ true
bytes_itself b = (bytes_decides b b).1 refl

nat_itself : (n : ℕ) → (n == n) ≡ true
nat_itself n = grind (arith, nat_tests)

pub record_itself : (a : Record) → same_record a a ≡ true
unfolding same_record same_column
record_itself a =
    let k = a.key in
    rw (bytes_itself k.row, bytes_itself k.family, bytes_itself k.qualifier, bytes_itself k.label, (Decides-int_eq k.timestamp k.timestamp).1 refl, nat_itself (kind_rank a.kind), bytes_itself a.value, nat_itself a.seq, nat_itself a.idx) refl

-- equal bytes hold the same record
pub bytes_same : (x y : List ℕ) (a b : Record) → record_at x 0 ≡ a → record_at y 0 ≡ b → bytes_eq x y ≡ true → same_record a b ≡ true
bytes_same x y a b e f t = ap (same_record a) (sym f ∙ ap (λ z. record_at z 0) (sym ((bytes_decides x y).0 t)) ∙ e) ∙ record_itself a
