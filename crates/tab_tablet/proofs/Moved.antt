-- Where a tablet's records lie after a freeze, a write and a merge: freezes and writes move them, and a merge puts its output in the place
-- of its inputs.
use Rattle.std.proofs.Common.{◌≡◌, ◌≢◌, inl, inr, List, [], ◌∷◌, ◌++◌, refl, sym, ◌∙◌, ap, subst, append_assoc, append-nil}
use Rattle.std.specs.Prelude.{map, Some}
use Rattle.std.specs.List.{AllByRecursion}
use Rattle.std.specs.List.Sorted.{IsPermutation}
use Rattle.std.specs.declared.cmp.Ordering.TheVariants.{Equal}
use Rattle.std.proofs.lemmas.List.{map-append}
use Rattle.std.proofs.lemmas.List.Sorted.{IsPermutation-refl, IsPermutation-trans, IsPermutation-append_comm, IsPermutation-append_left, IsPermutation-append_right}
use Rattle.tab_key.specs.Records.{Record}
use Rattle.tab_key.specs.Order.{record_cmp}
use Rattle.tab_key.specs.Sorted.{sorted, IsDistinct, IsIn}
use Rattle.tab_key.proofs.Rising.{all_in, in_filter, in_sorted, rising_sorted, distinct_filter}
use Rattle.tab_key.proofs.Sorting.{distinct_permuted}
use Rattle.tab_cells.specs.Compactions.{is_full}
use Rattle.tab_cells.specs.Merged.{survives, merged}
use Rattle.tab_cells.proofs.Lists.{in_right}
use Rattle.tab_cells.proofs.Rising.{rising_distinct}
use Rattle.tab_iter.specs.Bags.{flat}
use Rattle.tab_iter.proofs.BagLaws.{apart_join}
use Rattle.tab_version.specs.Sources.{Sources, records_of, built, left_by}
use Rattle.tab_compact.specs.Merges.{Merge, output}
use Rattle.tab_tablet.specs.Tablets.{Tablet, records_in, written, run_of, frozen, replaced}
use Rattle.tab_tablet.proofs.Gathered.{permuted_sorted}
use Rattle.tab_tablet.proofs.Parted.{held_of, swapped, left_out}

-- ---- lists of lists
pub flat_append : (xss yss : List (List Record)) → flat (xss ++ yss) ≡ flat xss ++ flat yss
flat_append [] yss = refl
flat_append (xs ∷ xss) yss = ap (λ l. xs ++ l) (flat_append xss yss) ∙ sym (append_assoc xs (flat xss) (flat yss))

-- ---- places of their own
pub distinct_left : (xs ys : List Record) → IsDistinct (xs ++ ys) → IsDistinct xs
distinct_left [] ys d = tt
distinct_left (x ∷ xs) ys d = (all_front xs d.0, distinct_left xs ys d.1)
  where
    all_front : (zs : List Record) → AllByRecursion (λ y. record_cmp x y ≢ Equal) (zs ++ ys) → AllByRecursion (λ y. record_cmp x y ≢ Equal) zs
    all_front [] a = tt
    all_front (z ∷ zs) a = (a.0, all_front zs a.1)

pub distinct_right : (xs ys : List Record) → IsDistinct (xs ++ ys) → IsDistinct ys
distinct_right [] ys d = d
distinct_right (x ∷ xs) ys d = distinct_right xs ys d.1

pub distinct_apart : (xs ys : List Record) → IsDistinct (xs ++ ys) → (x y : Record) → IsIn xs x → IsIn ys y → record_cmp x y ≢ Equal
distinct_apart [] ys d x y h k = absurd h
distinct_apart (z ∷ zs) ys d x y (inl e) k = subst (λ w. record_cmp w y ≢ Equal) e (all_in (λ v. record_cmp z v ≢ Equal) (zs ++ ys) d.0 y (in_right zs ys y k))
distinct_apart (z ∷ zs) ys d x y (inr h) k = distinct_apart zs ys d.1 x y h k

-- ---- a freeze
run_permuted : (us : List Record) → IsPermutation us (flat (run_of us))
run_permuted [] = IsPermutation-refl []
run_permuted (u ∷ us) = subst (IsPermutation (u ∷ us)) (sym (append-nil (sorted (u ∷ us)))) (permuted_sorted (u ∷ us))

pub frozen_permuted : (t : Tablet) → IsPermutation (records_in t) (records_in (frozen t))
frozen_permuted t =
    let a : List Record = t.active in
    let r : List Record = flat t.sources.runs in
    let s : List Record = flat (map held_of t.sources.tables) in
    subst (λ l. IsPermutation (a ++ (r ++ s)) (l ++ s)) (sym (flat_append t.sources.runs (run_of a)))
    (IsPermutation-trans (a ++ (r ++ s)) ((r ++ a) ++ s) ((r ++ flat (run_of a)) ++ s)
    (subst (λ l. IsPermutation l ((r ++ a) ++ s)) (append_assoc a r s) (IsPermutation-append_left s (a ++ r) (r ++ a) (IsPermutation-append_comm a r)))
    (IsPermutation-append_left s (r ++ a) (r ++ flat (run_of a)) (IsPermutation-append_right r a (flat (run_of a)) (run_permuted a))))

-- ---- a write
pub written_moved : (new : List Record) (t : Tablet) → IsPermutation (new ++ records_in t) (records_in (written new t))
written_moved new t = subst (IsPermutation (new ++ (t.active ++ records_of t.sources))) (sym (append_assoc t.active new (records_of t.sources))) (swapped new t.active (records_of t.sources))

-- ---- what a merge makes
-- a part of its inputs
pub in_output : (m : Merge) (u : Record) → IsIn (output m) u → IsIn (records_of m.inputs) u
unfolding merged
in_output m u h = (in_filter (survives (records_of m.inputs) (is_full m.kind) m.floor m.versions) (records_of m.inputs) u (in_sorted _ u h)).0

pub output_distinct : (m : Merge) → IsDistinct (records_of m.inputs) → IsDistinct (output m)
unfolding merged
output_distinct m d = rising_distinct _ (rising_sorted _ (distinct_filter (survives (records_of m.inputs) (is_full m.kind) m.floor m.versions) (records_of m.inputs) d))

-- beside other records
pub output_beside : (m : Merge) (beside : List Record) → IsDistinct (records_of m.inputs ++ beside) → IsDistinct (output m ++ beside)
output_beside m beside d = apart_join (output m) beside (output_distinct m (distinct_left (records_of m.inputs) beside d)) (distinct_right (records_of m.inputs) beside d) (λ x y a b. distinct_apart (records_of m.inputs) beside d x y (in_output m x a) b)

-- ---- its inputs replaced
module _ (m : Merge) (t : Tablet) (left : Sources) where
  abbrev outs : List Record
  outs = output m

  -- what is held beside the inputs
  abbrev pub beside : List Record
  beside = t.active ++ records_of left

  abbrev lasting : List Record
  lasting = flat (map held_of left.tables)

  tables_are : flat (map held_of (left.tables ++ built outs ∷ [])) ≡ lasting ++ outs
  tables_are = ap flat (map-append held_of left.tables (built outs ∷ [])) ∙ flat_append (map held_of left.tables) (outs ∷ []) ∙ ap (λ l. lasting ++ l) (append-nil outs)

  replaced_are : beside ++ outs ≡ records_in (replaced m left t)
  replaced_are = append_assoc t.active (flat left.runs ++ lasting) outs ∙ ap (λ l. t.active ++ l) (append_assoc (flat left.runs) lasting outs) ∙ ap (λ l. t.active ++ (flat left.runs ++ l)) (sym tables_are)

  pub replaced_permuted : IsPermutation (outs ++ beside) (records_in (replaced m left t))
  replaced_permuted = subst (IsPermutation (outs ++ beside)) replaced_are (IsPermutation-append_comm outs beside)

  -- where the inputs were found, they and the others are what there was
  pub parted : left_by m.inputs t.sources ≡ Some left → IsPermutation (records_in t) (records_of m.inputs ++ beside)
  parted found = IsPermutation-trans (records_in t) (t.active ++ (records_of m.inputs ++ records_of left)) (records_of m.inputs ++ beside)
      (IsPermutation-append_right t.active (records_of t.sources) (records_of m.inputs ++ records_of left) (left_out m.inputs t.sources left found))
      (swapped t.active (records_of m.inputs) (records_of left))

  -- what is held still stands at places of its own
  pub replaced_distinct : left_by m.inputs t.sources ≡ Some left → IsDistinct (records_in t) → IsDistinct (records_in (replaced m left t))
  replaced_distinct found d = distinct_permuted (outs ++ beside) (records_in (replaced m left t)) replaced_permuted (output_beside m beside (distinct_permuted (records_in t) (records_of m.inputs ++ beside) (parted found) d))
