-- Rows that records have, among more records.
use Rattle.std.proofs.Common.{◌≡◌, inl, inr, ℕ, ◌+◌, ◌<◌, ◌≤◌, List, [], ◌∷◌, ◌++◌, Bool, cond, not, get_or, refl, sym, ◌∙◌, ap, subst, length, arith}
use Rattle.std.specs.Prelude.{filter}
use Rattle.std.specs.Ordering.{is_lt, is_le}
use Rattle.std.specs.Cmp.Lexicographic.{nat_list_cmp_total}
use Rattle.std.specs.declared.cmp.Ordering.{Ordering}
use Rattle.std.specs.declared.cmp.Ordering.TheVariants.{Less, Equal, Greater}
use Rattle.std.proofs.lemmas.Cmp.{tied_itself}
use Rattle.std.proofs.lemmas.List.{length-append, get_or_default}
use Rattle.std.proofs.lemmas.List.Filters.{length-filter_both}
use Rattle.tab_key.specs.Bytes.{bytes_cmp}
use Rattle.tab_key.specs.Records.{Record}
use Rattle.tab_key.specs.Sorted.{IsIn}
use Rattle.tab_key.proofs.Rising.{in_from}
use Rattle.tab_cells.proofs.Lists.{filter_append}
use Rattle.tab_tablet.specs.Selecting.{count_below, count_upto, HasRow}

below_le : (r : List ℕ) (us : List Record) → count_below r us ≤ count_upto r us
below_le r [] = omega arith
below_le r (u ∷ us) = go (bytes_cmp u.key.row r) (below_le r us)
  where
    go : (o : Ordering) → count_below r us ≤ count_upto r us → length (cond (is_lt o) (u ∷ filter (λ x. is_lt (bytes_cmp x.key.row r)) us) (filter (λ x. is_lt (bytes_cmp x.key.row r)) us)) ≤ length (cond (is_le o) (u ∷ filter (λ x. is_le (bytes_cmp x.key.row r)) us) (filter (λ x. is_le (bytes_cmp x.key.row r)) us))
    go Less ih = omega (arith, ih)
    go Equal ih = omega (arith, ih)
    go Greater ih = ih

pub below_within : (r : List ℕ) (us : List Record) → count_below r us ≤ length us
below_within r us = omega (arith, length-filter_both (λ u. is_lt (bytes_cmp u.key.row r)) (λ u. not (is_lt (bytes_cmp u.key.row r))) (λ u. refl) us)

below_both : (r : List ℕ) (xs ys : List Record) → count_below r (xs ++ ys) ≡ count_below r xs + count_below r ys
below_both r xs ys = let p : Record → Bool = λ u. is_lt (bytes_cmp u.key.row r) in ap length (filter_append p xs ys) ∙ length-append (filter p xs) (filter p ys)

upto_both : (r : List ℕ) (xs ys : List Record) → count_upto r (xs ++ ys) ≡ count_upto r xs + count_upto r ys
upto_both r xs ys = let p : Record → Bool = λ u. is_le (bytes_cmp u.key.row r) in ap length (filter_append p xs ys) ∙ length-append (filter p xs) (filter p ys)

pub has_left : (xs ys : List Record) (r : List ℕ) → HasRow xs r → HasRow (xs ++ ys) r
has_left xs ys r h = omega (arith, h, below_both r xs ys, upto_both r xs ys, below_le r ys)

pub has_right : (xs ys : List Record) (r : List ℕ) → HasRow ys r → HasRow (xs ++ ys) r
has_right xs ys r h = omega (arith, h, below_both r xs ys, upto_both r xs ys, below_le r xs)

has_own : (us : List Record) (u : Record) → IsIn us u → HasRow us u.key.row
has_own [] u h = absurd h
has_own (x ∷ xs) u (inl e) =
    let tied : bytes_cmp x.key.row u.key.row ≡ Equal = subst (λ y. bytes_cmp x.key.row y.key.row ≡ Equal) e (tied_itself nat_list_cmp_total x.key.row) in
    rw tied (omega (arith, below_le u.key.row xs))
has_own (x ∷ xs) u (inr h) = has_right (x ∷ []) xs u.key.row (has_own xs u h)

-- the row of the record at a place
pub has_at : (us : List Record) (i : ℕ) (row : List ℕ) → i < length us → ((u : Record) → row ≡ (get_or us i u).key.row) → HasRow us row
has_at [] i row lt is = absurd (omega (arith, lt))
has_at (x ∷ xs) i row lt is =
    let u : Record = get_or (x ∷ xs) i x in
    subst (HasRow (x ∷ xs)) (sym (is x)) (has_own (x ∷ xs) u (in_from (x ∷ xs) u (i, lt, get_or_default (x ∷ xs) i u x lt)))
