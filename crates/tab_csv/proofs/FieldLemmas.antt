-- The fields of a record.
use Rattle.std.proofs.Common.{ℕ, zero, suc, ◌≡◌, ◌+◌, ◌<◌, List, [], ◌∷◌, length, get_or, drop, refl, sym, ap, ◌∙◌, arith, drop-cons}
use Rattle.std.specs.Prelude.{unwrap_or}
use Rattle.csv.specs.Records.{Row, field_at, fields_of}
use Rattle.csv.proofs.RecordFacts.{cut-length}
use Rattle.tab_csv.specs.Columns.{and_then, columns_from, with_name}
use Rattle.tab_csv.specs.declared.header.Header.{Header}

pub counted : (r : Row) → length (fields_of r) ≡ length r.ends
counted r = cut-length 0 r.ends r.bytes

field_is : (fields : List (List ℕ)) (i : ℕ) → unwrap_or (field_at fields i) [] ≡ get_or fields i []
unfolding field_at
field_is [] i = refl
field_is (x ∷ xs) zero = refl
field_is (x ∷ xs) (suc i) = field_is xs i

-- the columns from a place on: that of the name there, and then the others
pub one_more : (h : Header) (i : ℕ) (fields : List (List ℕ)) → i < length fields
    → columns_from h i (drop i fields) ≡ and_then (λ longer. columns_from longer (i + 1) (drop (i + 1) fields)) (with_name h i (unwrap_or (field_at fields i) []))
one_more h i fields lt =
    let next : suc i ≡ i + 1 = omega arith in
    ap (columns_from h i) (drop-cons fields i [] lt ∙ ap (λ x. x ∷ drop (suc i) fields) (sym (field_is fields i)))
    ∙ ap (λ n. and_then (λ longer. columns_from longer (i + 1) (drop n fields)) (with_name h i (unwrap_or (field_at fields i) []))) next
