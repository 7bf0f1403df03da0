-- Columns compared in one piece.
use Rattle.std.proofs.Common.{◌≡◌, ℕ, List, [], ◌∷◌, ◌++◌, refl, ◌∙◌, ap, length, arith, length-append}
use Rattle.std.specs.Ordering.{nat_cmp, ordering_then}
use Rattle.std.specs.declared.cmp.Ordering.{Ordering}
use Rattle.std.specs.declared.cmp.Ordering.TheVariants.{Less, Equal, Greater}
use Rattle.tab_key.specs.Bytes.{bytes_cmp}
use Rattle.tab_key.specs.Order.{column_cmp}
use Rattle.tab_key.specs.Records.{Key}

then_assoc : (p q r : Ordering) → ordering_then p (ordering_then q r) ≡ ordering_then (ordering_then p q) r
then_assoc Less q r = refl
then_assoc Equal q r = refl
then_assoc Greater q r = refl

-- behind two beginnings that are as long, what follows decides where they are equal
cmp_append : (a b c d : List ℕ) → length a ≡ length b → bytes_cmp (a ++ c) (b ++ d) ≡ ordering_then (bytes_cmp a b) (bytes_cmp c d)
cmp_append [] [] c d e = refl
cmp_append [] (y ∷ b) c d e = absurd (omega (arith, e))
cmp_append (x ∷ a) [] c d e = absurd (omega (arith, e))
cmp_append (x ∷ a) (y ∷ b) c d e = ap (ordering_then (nat_cmp x y)) (cmp_append a b c d (omega (arith, e))) ∙ then_assoc (nat_cmp x y) (bytes_cmp a b) (bytes_cmp c d)

pub in_one_piece : (x y : Key) → length x.row ≡ length y.row → length x.family ≡ length y.family → length x.qualifier ≡ length y.qualifier → bytes_cmp (x.row ++ x.family ++ x.qualifier ++ x.label) (y.row ++ y.family ++ y.qualifier ++ y.label) ≡ column_cmp x y
unfolding column_cmp
in_one_piece x y r f q =
    let two : length (x.row ++ x.family) ≡ length (y.row ++ y.family) = omega (arith, r, f, length-append x.row x.family, length-append y.row y.family) in
    let three : length (x.row ++ x.family ++ x.qualifier) ≡ length (y.row ++ y.family ++ y.qualifier) = omega (arith, two, q, length-append (x.row ++ x.family) x.qualifier, length-append (y.row ++ y.family) y.qualifier) in
    cmp_append (x.row ++ x.family ++ x.qualifier) (y.row ++ y.family ++ y.qualifier) x.label y.label three
    ∙ ap (λ o. ordering_then o (bytes_cmp x.label y.label)) (cmp_append (x.row ++ x.family) (y.row ++ y.family) x.qualifier y.qualifier two ∙ ap (λ o. ordering_then o (bytes_cmp x.qualifier y.qualifier)) (cmp_append x.row y.row x.family y.family r))
