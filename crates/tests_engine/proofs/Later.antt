-- A run of later numbers shares no place with what was there.
use Rattle.std.proofs.Common.{◌≡◌, ◌⊎◌, inl, inr, ℕ, zero, suc, ◌≤◌, ◌<◌, Bool, List, [], ◌∷◌, ◌++◌, filter, refl, sym, ◌∙◌, ap, subst, length, arith, append_assoc, All, append-nil}
use Rattle.std.specs.Prelude.{slice_index_or, Contains}
use Rattle.std.proofs.lemmas.List.Sorted.{IsPermutation-sym}
use Rattle.tab_key.specs.Records.{Record}
use Rattle.tab_key.specs.Sorted.{IsDistinct, IsIn, sorted}
use Rattle.tab_key.proofs.Rising.{in_from, in_to, distinct_filter}
use Rattle.tab_key.proofs.Sorting.{distinct_permuted}
use Rattle.tab_key.proofs.Ties.{ties_are_one}
use Rattle.tab_iter.specs.Bags.{flat}
use Rattle.tab_iter.proofs.BagLaws.{distinct_more, apart_join}
use Rattle.tab_cells.proofs.Lists.{in_append}
use Rattle.tab_version.proofs.InOrder.{permuted_sorted}
use Rattle.tab_iter.specs.Lists.{IsRising}
use Rattle.tab_iter.proofs.ListLaws.{first_less, later_rises}

all_to : (P : Record → Type 0) (xs : List Record) → All P xs → (u : Record) → IsIn xs u → P u
all_to P xs f u h = let at = in_to xs u h in subst P at.2 (f at.0 u at.1)

nth_in : (xs : List Record) (k : ℕ) (d : Record) → k < length xs → IsIn xs (slice_index_or xs k d)
nth_in [] k d lt = absurd (omega (arith, lt))
nth_in (x ∷ xs) zero d lt = inl refl
nth_in (x ∷ xs) (suc k) d lt = inr (nth_in xs k d (omega (arith, lt)))

flat_more : (cs : List (List Record)) (x : List Record) → flat (cs ++ x ∷ []) ≡ flat cs ++ x
flat_more [] x = append-nil x
flat_more (c ∷ cs) x = ap (λ l. c ++ l) (flat_more cs x) ∙ sym (append_assoc c (flat cs) x)

rising_distinct : (xs : List Record) → IsRising xs → IsDistinct xs
rising_distinct [] up = tt
rising_distinct (x ∷ xs) up = distinct_more x xs (λ u h e. let f = sym (first_less x xs up u h) ∙ e in cc) (rising_distinct xs (later_rises x xs up))

module _ (cs new : List (List Record)) (x : List Record) (from to : ℕ) where
  pub still_distinct : new ≡ cs ++ x ∷ [] → IsDistinct (flat cs) → All (λ u. u.seq < from) (flat cs) → IsRising x → All (λ u. (from ≤ u.seq) × (u.seq < to)) x → IsDistinct (flat new)
  still_distinct e d old up young = subst IsDistinct (sym (ap flat e ∙ flat_more cs x)) (apart_join (flat cs) x d (rising_distinct x up) (λ a b h k tie.
      let less : a.seq < from = all_to (λ u. u.seq < from) (flat cs) old a h in
      let more = all_to (λ u. (from ≤ u.seq) × (u.seq < to)) x young b k in
      let same : a.seq ≡ b.seq = ((ties_are_one a b).0 tie).2 in
      omega (arith, more.0)))

  pub still_older : new ≡ cs ++ x ∷ [] → from ≤ to → All (λ u. u.seq < from) (flat cs) → All (λ u. (from ≤ u.seq) × (u.seq < to)) x → All (λ u. u.seq < to) (flat new)
  still_older e le old young = subst (All (λ u. u.seq < to)) (sym (ap flat e ∙ flat_more cs x)) (λ k d lt. go (slice_index_or (flat cs ++ x) k d) (in_append (flat cs) x (slice_index_or (flat cs ++ x) k d) (nth_in (flat cs ++ x) k d lt)))
    where
      go : (u : Record) → IsIn (flat cs) u ⊎ IsIn x u → u.seq < to
      go u (inl h) = let less : u.seq < from = all_to (λ v. v.seq < from) (flat cs) old u h in omega arith
      go u (inr h) = (all_to (λ v. (from ≤ v.seq) × (v.seq < to)) x young u h).1

-- no record of an empty list has a number
pub nothing_older : (us : List Record) (n : ℕ) → us ≡ [] → (u : Record) → Contains us u → u.seq < n
nothing_older us n e u h = absurd (in_from [] u (subst (λ l. Contains l u) e h))

-- what is read of records that stand apart stands apart, in whatever order it lies
pub distinct_read : (p : Record → Bool) (us read : List Record) → sorted read ≡ sorted (filter p us) → IsDistinct us → IsDistinct read
distinct_read p us read e d =
    let part : List Record = filter p us in
    distinct_permuted (sorted read) read (IsPermutation-sym read (sorted read) (permuted_sorted read))
    (subst IsDistinct (sym e) (distinct_permuted part (sorted part) (permuted_sorted part) (distinct_filter p us d)))
