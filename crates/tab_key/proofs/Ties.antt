-- What two records share that stand at one place, and two keys of one column.
use Rattle.std.proofs.Common.{◌≡◌, ℕ, List, ◌&&◌, refl, sym, ◌∙◌, ap, arith}
use Rattle.std.specs.Prelude.{ℤ}
use Rattle.std.specs.Ordering.{nat_cmp, int_cmp, is_eq, ordering_then}
use Rattle.std.specs.declared.cmp.Ordering.{Ordering}
use Rattle.std.specs.declared.cmp.Ordering.TheVariants.{Less, Equal, Greater}
use Rattle.std.specs.Cmp.{tied_itself}
use Rattle.std.specs.FinMap.{slice_cmp-IsAntisymmetric, nat_cmp-IsAntisymmetric}
use Rattle.std.proofs.lemmas.Map.Text.{is_eq-slice_cmp}
use Rattle.std.proofs.lemmas.Bool.Decides.{nat_tests}
use Rattle.std.proofs.lemmas.Int.{ints}
use Rattle.tab_key.specs.Bytes.{bytes_cmp}
use Rattle.tab_key.specs.Records.{Key, Record}
use Rattle.tab_key.specs.Order.{kind_rank, column_cmp, key_cmp, place_cmp, newer_cmp, record_cmp, TiesAreOne}
use Rattle.tab_key.specs.Kept.{same_column}
use Rattle.tab_key.specs.declared.key.Kind.{Kind}
use Rattle.tab_key.specs.declared.key.Kind.TheVariants.{Delete, Put}
use Rattle.tab_key.proofs.Order.{record_cmp_total}

pub then_both : (a b : Ordering) → ordering_then a b ≡ Equal → (a ≡ Equal) × (b ≡ Equal)
then_both Less b e = absurd cc
then_both Equal b e = (refl, e)
then_both Greater b e = absurd cc

pub is_eq-then : (a b : Ordering) → is_eq (ordering_then a b) ≡ (is_eq a && is_eq b)
is_eq-then Less b = refl
is_eq-then Equal b = refl
is_eq-then Greater b = refl

pub bytes_tied : (a b : List ℕ) → bytes_cmp a b ≡ Equal → a ≡ b
bytes_tied a b e = slice_cmp-IsAntisymmetric nat_cmp-IsAntisymmetric a b e

pub nats_tied : (a b : ℕ) → nat_cmp a b ≡ Equal → a ≡ b
nats_tied a b e = grind (arith, nat_tests)

pub ints_tied : (a b : ℤ) → int_cmp a b ≡ Equal → a ≡ b
ints_tied a b e = grind (arith, ints)

pub kinds_tied : (a b : Kind) → kind_rank a ≡ kind_rank b → a ≡ b
kinds_tied Delete Delete e = refl
kinds_tied Delete Put e = absurd (omega (arith, e))
kinds_tied Put Delete e = absurd (omega (arith, e))
kinds_tied Put Put e = refl

pub keys_tied : (a b : Key) → key_cmp a b ≡ Equal → a ≡ b
unfolding key_cmp column_cmp
keys_tied a b e =
    let whole = then_both _ (int_cmp b.timestamp a.timestamp) e in
    let three = then_both _ (bytes_cmp a.label b.label) whole.0 in
    let two = then_both _ (bytes_cmp a.qualifier b.qualifier) three.0 in
    let one = then_both (bytes_cmp a.row b.row) (bytes_cmp a.family b.family) two.0 in
    let row = bytes_tied a.row b.row one.0 in
    let family = bytes_tied a.family b.family one.1 in
    let qualifier = bytes_tied a.qualifier b.qualifier two.1 in
    let label = bytes_tied a.label b.label three.1 in
    let timestamp = sym (ints_tied b.timestamp a.timestamp whole.1) in
    λ i. record { row = row i; family = family i; qualifier = qualifier i; label = label i; timestamp = timestamp i }

pub tied_parts : (a b : Record) → record_cmp a b ≡ Equal → (a.key ≡ b.key) × (a.kind ≡ b.kind) × (a.seq ≡ b.seq) × (a.idx ≡ b.idx)
unfolding place_cmp newer_cmp
tied_parts a b e =
    let whole = then_both _ _ e in
    let place = then_both (key_cmp a.key b.key) (nat_cmp (kind_rank a.kind) (kind_rank b.kind)) whole.0 in
    let newer = then_both (nat_cmp b.seq a.seq) (nat_cmp b.idx a.idx) whole.1 in
    (keys_tied a.key b.key place.0, kinds_tied a.kind b.kind (nats_tied _ _ place.1), sym (nats_tied b.seq a.seq newer.0), sym (nats_tied b.idx a.idx newer.1))

-- whatever the value of the second
revalued : (a : Record) (value : List ℕ) → record_cmp a (record { key = a.key; kind = a.kind; value = value; seq = a.seq; idx = a.idx }) ≡ Equal
unfolding place_cmp newer_cmp
revalued a value = tied_itself record_cmp_total a

parts_tied : (a b : Record) → (a.key ≡ b.key) × (a.kind ≡ b.kind) × (a.seq ≡ b.seq) × (a.idx ≡ b.idx) → record_cmp a b ≡ Equal
parts_tied a b same =
    let moved : record { key = a.key; kind = a.kind; value = b.value; seq = a.seq; idx = a.idx } ≡ b = λ i. record { key = same.0 i; kind = same.1 i; value = b.value; seq = same.2 i; idx = same.3 i } in
    ap (record_cmp a) (sym moved) ∙ revalued a b.value

pub ties_are_one : TiesAreOne
ties_are_one a b = (tied_parts a b, parts_tied a b)

-- the order ties columns that are the same, and no others
pub same_column-cmp : (a b : Key) → is_eq (column_cmp a b) ≡ same_column a b
unfolding column_cmp same_column
same_column-cmp a b =
    is_eq-then _ (bytes_cmp a.label b.label) ∙ (λ i. (is_eq-then _ (bytes_cmp a.qualifier b.qualifier) ∙ (λ k. (is_eq-then (bytes_cmp a.row b.row) (bytes_cmp a.family b.family) ∙ (λ l. is_eq-slice_cmp a.row b.row l && is_eq-slice_cmp a.family b.family l)) k && is_eq-slice_cmp a.qualifier b.qualifier k)) i && is_eq-slice_cmp a.label b.label i)
