-- What a compaction reads stands at places of its own where all sources do.
use Rattle.std.proofs.Common.{◌≡◌, ℕ, List, [], ◌∷◌, ◌++◌, Bool, true, false, cond, refl, sym, ◌∙◌, ap, subst, map, take, drop, append_assoc, append-nil}
use Rattle.std.specs.Prelude.{Option, Some, None, nat_lt}
use Rattle.std.specs.List.Sorted.{IsPermutation}
use Rattle.std.proofs.lemmas.List.{take-append-drop, map-append}
use Rattle.std.proofs.lemmas.List.Sorted.{IsPermutation-refl, IsPermutation-trans, IsPermutation-append_comm, IsPermutation-append_left, IsPermutation-append_right}
use Rattle.tab_key.specs.Records.{Record}
use Rattle.tab_key.specs.Sorted.{IsDistinct}
use Rattle.tab_key.proofs.Sorting.{distinct_permuted}
use Rattle.tab_cells.specs.declared.compaction.Compaction.{Compaction}
use Rattle.tab_cells.specs.declared.compaction.Compaction.TheVariants.{Minor, Partial, Full}
use Rattle.tab_iter.specs.Bags.{flat}
use Rattle.tab_iter.proofs.BagLaws.{apart_left, apart_right}
use Rattle.tab_version.specs.Sources.{Sorted, Sources, records_of}
use Rattle.tab_compact.specs.Plans.{plan}
use Rattle.tab_compact.specs.Merges.{held, put_by_size, by_size, sizes_of, taken, inputs_of}

-- two lists change places before a third
swapped : (xs ys zs : List Record) → IsPermutation (xs ++ (ys ++ zs)) (ys ++ (xs ++ zs))
swapped xs ys zs =
    let P : List Record → List Record → Type 0 = λ a b. IsPermutation a b in
    subst (λ a. P a (ys ++ (xs ++ zs))) (append_assoc xs ys zs)
    (subst (λ b. P ((xs ++ ys) ++ zs) b) (append_assoc ys xs zs)
    (IsPermutation-append_left zs (xs ++ ys) (ys ++ xs) (IsPermutation-append_comm xs ys)))

put_permuted : (t : Sorted) (ss : List Sorted) → IsPermutation (t.records ++ held ss) (held (put_by_size t ss))
put_permuted t [] = IsPermutation-refl (t.records ++ [])
put_permuted t (s ∷ ss) = go (nat_lt s.size t.size) (put_permuted t ss)
  where
    go : (v : Bool) → IsPermutation (t.records ++ held ss) (held (put_by_size t ss)) → IsPermutation (t.records ++ (s.records ++ held ss)) (held (cond v (s ∷ put_by_size t ss) (t ∷ s ∷ ss)))
    go true ih = IsPermutation-trans _ _ _ (swapped t.records s.records (held ss)) (IsPermutation-append_right s.records _ _ ih)
    go false ih = IsPermutation-refl _

by_size_permuted : (ts : List Sorted) → IsPermutation (held ts) (held (by_size ts))
by_size_permuted [] = IsPermutation-refl []
by_size_permuted (t ∷ ts) = IsPermutation-trans _ _ _ (IsPermutation-append_right t.records _ _ (by_size_permuted ts)) (put_permuted t (by_size ts))

pub flat_append : (xss yss : List (List Record)) → flat (xss ++ yss) ≡ flat xss ++ flat yss
flat_append [] yss = refl
flat_append (xs ∷ xss) yss = ap (λ l. xs ++ l) (flat_append xss yss) ∙ sym (append_assoc xs (flat xss) (flat yss))

taken_distinct : (o : Option ℕ) (ts : List Sorted) → IsDistinct (held ts) → IsDistinct (held (taken o ts))
taken_distinct None ts d = tt
taken_distinct (Some k) ts d = apart_left (held (take k ts)) (held (drop k ts)) (subst IsDistinct (sym parts) d)
  where
    parts : held (take k ts) ++ held (drop k ts) ≡ held ts
    parts =
        sym (flat_append (map (λ (t : Sorted). t.records) (take k ts)) (map (λ (t : Sorted). t.records) (drop k ts)))
        ∙ ap flat (sym (map-append (λ (t : Sorted). t.records) (take k ts) (drop k ts)))
        ∙ ap held (take-append-drop k ts)

pub inputs_distinct : (kind : Compaction) (s : Sources) → IsDistinct (records_of s) → IsDistinct (records_of (inputs_of kind s))
inputs_distinct Minor s d = subst IsDistinct (sym (append-nil (flat s.runs))) (apart_left (flat s.runs) (held s.tables) d)
inputs_distinct Partial s d =
    let tables : IsDistinct (held (by_size s.tables)) = distinct_permuted (held s.tables) (held (by_size s.tables)) (by_size_permuted s.tables) (apart_right (flat s.runs) (held s.tables) d) in
    taken_distinct (plan (sizes_of (by_size s.tables))) (by_size s.tables) tables
inputs_distinct Full s d = d
