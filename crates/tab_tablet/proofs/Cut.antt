-- The records of sources that are cut to some rows.
use Rattle.std.proofs.Common.{◌≡◌, ℕ, List, [], ◌∷◌, ◌++◌, Bool, sym, ◌∙◌, ap, subst, refl}
use Rattle.std.proofs.Math.Bool.{and-true}
use Rattle.std.specs.Cmp.Lexicographic.{nat_list_cmp_total}
use Rattle.std.specs.Ordering.{is_lt, is_gt, ordering_reverse}
use Rattle.std.specs.Prelude.{filter, map}
use Rattle.std.specs.declared.cmp.Ordering.{Ordering}
use Rattle.std.specs.declared.cmp.Ordering.TheVariants.{Less, Equal, Greater}
use Rattle.tab_key.specs.Bytes.{bytes_cmp}
use Rattle.tab_key.specs.Ranges.{is_in_range}
use Rattle.tab_key.specs.declared.range.Bound.TheVariants.{Unbounded, Exclusive}
use Rattle.tab_key.specs.Records.{Record}
use Rattle.tab_key.specs.Sorted.{IsDistinct}
use Rattle.tab_key.proofs.Rising.{distinct_filter}
use Rattle.tab_cells.proofs.Lists.{filter_append}
use Rattle.tab_iter.specs.Bags.{flat}
use Rattle.tab_version.specs.Sources.{Sorted, Sources, records_of, clipped}
use Rattle.tab_tablet.proofs.Clipped.{held_in}
use Rattle.tab_tablet.proofs.Moved.{distinct_right}

pub runs_cut : (p : Record → Bool) (runs : List (List Record)) → flat (map (filter p) runs) ≡ filter p (flat runs)
runs_cut p [] = refl
runs_cut p (run ∷ runs) = ap (λ l. filter p run ++ l) (runs_cut p runs) ∙ sym (filter_append p run (flat runs))

tables_cut : (p : Record → Bool) (tables : List Sorted) → held_in (map (λ (t : Sorted). record t { records = filter p t.records }) tables) ≡ filter p (held_in tables)
tables_cut p [] = refl
tables_cut p (table ∷ tables) = ap (λ l. filter p table.records ++ l) (tables_cut p tables) ∙ sym (filter_append p table.records (held_in tables))

-- they are those whose rows pass
pub clipped_records : (p : List ℕ → Bool) (s : Sources) → records_of (clipped p s) ≡ filter (λ u. p u.key.row) (records_of s)
clipped_records p s = (λ i. runs_cut (λ u. p u.key.row) s.runs i ++ tables_cut (λ u. p u.key.row) s.tables i) ∙ sym (filter_append (λ u. p u.key.row) (flat s.runs) (held_in s.tables))

-- none is held twice
pub clipped_distinct : (p : List ℕ → Bool) (active : List Record) (s : Sources) → IsDistinct (active ++ records_of s) → IsDistinct (records_of (clipped p s))
clipped_distinct p active s d = subst IsDistinct (sym (clipped_records p s)) (distinct_filter (λ u. p u.key.row) (records_of s) (distinct_right active (records_of s) d))

-- the rows above one
above_is : (o : Ordering) → is_lt (ordering_reverse o) ≡ is_gt o
above_is Less = refl
above_is Equal = refl
above_is Greater = refl

pub rows_above_are : (low row : List ℕ) → low ≡ row → is_in_range (record { low = Exclusive low; high = Unbounded }) ≡ (λ r. is_gt (bytes_cmp r row))
rows_above_are low row same = λ i r. (and-true (is_lt (bytes_cmp low r)) ∙ ap (λ l. is_lt (bytes_cmp l r)) same ∙ ap is_lt (nat_list_cmp_total.antisymm row r) ∙ above_is (bytes_cmp r row)) i
