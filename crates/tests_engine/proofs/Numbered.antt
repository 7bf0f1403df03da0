-- A source whose records have a later number than all others shares no place with them.
use Rattle.std.proofs.Common.{◌≡◌, ◌⊎◌, inl, inr, ℕ, ◌+◌, ◌<◌, List, [], ◌∷◌, ◌++◌, sym, ◌∙◌, ap, subst, arith, map, append_assoc, append-nil, All}
use Rattle.std.specs.List.Sorted.{IsPermutation}
use Rattle.std.proofs.lemmas.List.{map-append}
use Rattle.std.proofs.lemmas.List.Sorted.{IsPermutation-refl, IsPermutation-sym, IsPermutation-append_comm, IsPermutation-append_right, Contains-permutation}
use Rattle.tab_key.specs.Records.{Record}
use Rattle.tab_key.specs.Sorted.{IsDistinct, IsIn}
use Rattle.tab_key.proofs.Rising.{in_from, in_to}
use Rattle.tab_key.proofs.Sorting.{distinct_permuted}
use Rattle.tab_key.proofs.Ties.{ties_are_one}
use Rattle.tab_cells.proofs.Lists.{in_append}
use Rattle.tab_iter.specs.Bags.{flat}
use Rattle.tab_iter.specs.Lists.{IsRising}
use Rattle.tab_iter.proofs.BagLaws.{distinct_more, apart_join}
use Rattle.tab_iter.proofs.ListLaws.{first_less, later_rises}
use Rattle.tab_version.specs.Sources.{Sorted, Sources, no_sources, records_of}
use Rattle.tab_version.proofs.Gathering.{flat_both}
use Rattle.tests_engine.specs.Numbered.{IsNumbered}

rising_distinct : (xs : List Record) → IsRising xs → IsDistinct xs
rising_distinct [] up = tt
rising_distinct (x ∷ xs) up = distinct_more x xs (λ u h e. let f = sym (first_less x xs up u h) ∙ e in cc) (rising_distinct xs (later_rises x xs up))

numbered : (n : ℕ) (xs : List Record) → All (λ u. u.seq ≡ n) xs → (u : Record) → IsIn xs u → u.seq ≡ n
numbered n xs all u h = let at = in_to xs u h in subst (λ v. v.seq ≡ n) at.2 (all at.0 u at.1)

-- the records of a source more, wherever it stands
more : (s new : Sources) (n : ℕ) (x : List Record) → IsPermutation (records_of s ++ x) (records_of new) → IsNumbered s n → IsRising x → All (λ u. u.seq ≡ n) x → IsNumbered new (n + 1)
more s new n x p old up all = record {
  distinct = distinct_permuted (records_of s ++ x) (records_of new) p (apart_join (records_of s) x old.distinct (rising_distinct x up) (λ a b h k tie.
      let less : a.seq < n = old.below a h in
      let is : b.seq ≡ n = numbered n x all b k in
      let same : a.seq ≡ b.seq = ((ties_are_one a b).0 tie).2 in
      absurd (omega (arith, less, is, same))));
  below = λ u h. go u (in_append (records_of s) x u (in_from (records_of s ++ x) u (Contains-permutation (records_of new) (records_of s ++ x) u (IsPermutation-sym (records_of s ++ x) (records_of new) p) (in_to (records_of new) u h))));
}
  where
    go : (u : Record) → IsIn (records_of s) u ⊎ IsIn x u → u.seq < n + 1
    go u (inl h) = let less : u.seq < n = old.below u h in omega (arith, less)
    go u (inr k) = let is : u.seq ≡ n = numbered n x all u k in omega (arith, is)

flat_more : (xss : List (List Record)) (x : List Record) → flat (xss ++ x ∷ []) ≡ flat xss ++ x
flat_more xss x = flat_both xss (x ∷ []) ∙ ap (λ l. flat xss ++ l) (append-nil x)

-- a run stands before the tables
run_permuted : (s new : Sources) (x : List Record) → new ≡ record s { runs = s.runs ++ x ∷ [] } → IsPermutation (records_of s ++ x) (records_of new)
run_permuted s new x e =
    let held : List Record = flat (map (λ (t : Sorted). t.records) s.tables) in
    let P : List Record → List Record → Type 0 = λ a b. IsPermutation a b in
    subst (P (records_of s ++ x)) (sym (ap (λ l. l ++ held) (flat_more s.runs x) ∙ append_assoc (flat s.runs) x held) ∙ sym (ap records_of e))
    (subst (λ a. P a (flat s.runs ++ (x ++ held))) (sym (append_assoc (flat s.runs) held x))
    (IsPermutation-append_right (flat s.runs) (held ++ x) (x ++ held) (IsPermutation-append_comm held x)))

-- a table stands last
table_permuted : (s new : Sources) (t : Sorted) → new ≡ record s { tables = s.tables ++ t ∷ [] } → IsPermutation (records_of s ++ t.records) (records_of new)
table_permuted s new t e =
    let held : List (List Record) = map (λ (u : Sorted). u.records) s.tables in
    let all : flat (map (λ (u : Sorted). u.records) (s.tables ++ t ∷ [])) ≡ flat held ++ t.records = ap flat (map-append (λ (u : Sorted). u.records) s.tables (t ∷ [])) ∙ flat_more held t.records in
    subst (λ a. IsPermutation (records_of s ++ t.records) a) (append_assoc (flat s.runs) (flat held) t.records ∙ ap (λ l. flat s.runs ++ l) (sym all) ∙ sym (ap records_of e)) (IsPermutation-refl (records_of s ++ t.records))

pub run_added : (s new : Sources) (n : ℕ) (x y z : List Record) → new ≡ record s { runs = s.runs ++ x ∷ [] } → x ≡ z → y ≡ z → IsNumbered s n → IsRising y → All (λ u. u.seq ≡ n) y → IsNumbered new (n + 1)
run_added s new n x y z e f g old up all =
    let same : y ≡ x = g ∙ sym f in
    more s new n x (run_permuted s new x e) old (subst IsRising same up) (subst (All (λ u. u.seq ≡ n)) same all)

pub table_added : (s new : Sources) (n : ℕ) (t : Sorted) (y : List Record) → new ≡ record s { tables = s.tables ++ t ∷ [] } → t.records ≡ y → IsNumbered s n → IsRising y → All (λ u. u.seq ≡ n) y → IsNumbered new (n + 1)
table_added s new n t y e f old up all = more s new n t.records (table_permuted s new t e) old (subst IsRising (sym f) up) (subst (All (λ u. u.seq ≡ n)) (sym f) all)

pub none_numbered : (s : Sources) (n : ℕ) → s ≡ no_sources → IsNumbered s n
none_numbered s n e = subst (λ x. IsNumbered x n) (sym e) (record { distinct = tt; below = λ u h. absurd h })
