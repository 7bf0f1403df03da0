-- The records of a tablet, wherever they lie.
use Rattle.std.proofs.Common.{◌≡◌, ℕ, ◌<◌, List, [], ◌∷◌, ◌++◌, sym, ◌∙◌, ap, subst, append_assoc, append-nil}
use Rattle.std.specs.Prelude.{Contains, Result, Ok, Err, ⊤, OnOk, OnErr}
use Rattle.std.specs.List.Sorted.{IsPermutation}
use Rattle.std.proofs.lemmas.List.Sorted.{IsPermutation-sym, IsPermutation-trans, IsPermutation-append_comm, IsPermutation-append_left, IsPermutation-append_right, Contains-permutation}
use Rattle.tab_key.specs.Records.{Record}
use Rattle.tab_key.specs.Sorted.{sorted, IsDistinct}
use Rattle.tab_key.proofs.Rising.{in_from, in_to, in_sorted, sorted_in, rising_sorted, same_rising}
use Rattle.tab_key.proofs.Sorting.{distinct_permuted}
use Rattle.tab_cells.specs.Written.{TimedUpdate, records_of}
use Rattle.tab_iter.specs.Bags.{flat}
use Rattle.tab_cells.proofs.Written.{distinct_new}
use Rattle.tab_cells.proofs.Rising.{contains_first, sorted_contains}
pub use Rattle.tab_version.proofs.InOrder.{permuted_sorted}

-- ---- sorting
-- the same records in another order are sorted to one list
sorted_once : (xs ys : List Record) → IsDistinct xs → IsPermutation xs ys → sorted xs ≡ sorted ys
sorted_once xs ys d p =
    same_rising (sorted xs) (sorted ys) (rising_sorted xs d) (rising_sorted ys (distinct_permuted xs ys p d))
    (λ u h. sorted_in ys u (in_from ys u (Contains-permutation xs ys u p (in_to xs u (in_sorted xs u h)))))
    (λ u h. sorted_in xs u (in_from xs u (Contains-permutation ys xs u (IsPermutation-sym xs ys p) (in_to ys u (in_sorted ys u h)))))

-- ---- a freeze
frozen_permuted : (active runs : List Record) → IsPermutation (active ++ runs) (runs ++ sorted active)
frozen_permuted active runs =
    IsPermutation-trans (active ++ runs) (runs ++ active) (runs ++ sorted active)
    (IsPermutation-append_comm active runs)
    (IsPermutation-append_right runs active (sorted active) (permuted_sorted active))

pub frozen_distinct : (active runs : List Record) → IsDistinct (active ++ runs) → IsDistinct (runs ++ sorted active)
frozen_distinct active runs d = distinct_permuted (active ++ runs) (runs ++ sorted active) (frozen_permuted active runs) d

pub frozen_sorted : (active runs : List Record) → IsDistinct (active ++ runs) → sorted (active ++ runs) ≡ sorted (runs ++ sorted active)
frozen_sorted active runs d = sorted_once (active ++ runs) (runs ++ sorted active) d (frozen_permuted active runs)

-- the runs with one more
pub flat_more : (xss : List (List Record)) (xs : List Record) → flat (xss ++ xs ∷ []) ≡ flat xss ++ xs
flat_more [] xs = append-nil xs
flat_more (ys ∷ xss) xs = ap (λ l. ys ++ l) (flat_more xss xs) ∙ sym (append_assoc ys (flat xss) xs)

-- ---- a write
module _ (seq : ℕ) (row : List ℕ) (ps : List TimedUpdate) (active runs : List Record) (below : (u : Record) → Contains (sorted (active ++ runs)) u → u.seq < seq) (d : IsDistinct (active ++ runs)) where
  abbrev added : List Record
  added = records_of seq row ps

  pub active_below : (u : Record) → Contains active u → u.seq < seq
  active_below u c = below u (contains_first active runs u c)

  all_distinct : IsDistinct (added ++ (active ++ runs))
  all_distinct = distinct_new seq row ps (active ++ runs) (λ u c. below u (sorted_contains (active ++ runs) u c)) d

  written_permuted : IsPermutation (added ++ (active ++ runs)) ((active ++ added) ++ runs)
  written_permuted = subst (λ l. IsPermutation l ((active ++ added) ++ runs)) (append_assoc added active runs)
      (IsPermutation-append_left runs (added ++ active) (active ++ added) (IsPermutation-append_comm added active))

  pub written_distinct : IsDistinct ((active ++ added) ++ runs)
  written_distinct = distinct_permuted (added ++ (active ++ runs)) ((active ++ added) ++ runs) written_permuted all_distinct

  pub written_sorted : sorted ((active ++ added) ++ runs) ≡ sorted (added ++ sorted (active ++ runs))
  written_sorted =
      sym (sorted_once (added ++ (active ++ runs)) ((active ++ added) ++ runs) all_distinct written_permuted)
      ∙ sorted_once (added ++ (active ++ runs)) (added ++ sorted (active ++ runs)) all_distinct (IsPermutation-append_right added (active ++ runs) (sorted (active ++ runs)) (permuted_sorted (active ++ runs)))

-- whether a mutation went in or not
pub distinct_after : {E : Type 0} (seq : ℕ) (row : List ℕ) (ps : List TimedUpdate) (active runs : List Record) → ((u : Record) → Contains (sorted (active ++ runs)) u → u.seq < seq) → IsDistinct (active ++ runs)
    → (new : List Record) (r : Result ⊤ E) → OnOk r (new ≡ active ++ records_of seq row ps) → OnErr r (new ≡ active) → IsDistinct (new ++ runs)
distinct_after seq row ps active runs below d new (Ok x) ok err = subst (λ l. IsDistinct (l ++ runs)) (sym ok) (written_distinct seq row ps active runs below d)
distinct_after seq row ps active runs below d new (Err e) ok err = subst (λ l. IsDistinct (l ++ runs)) (sym err) d
