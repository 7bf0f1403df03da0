-- Merged runs hold what runs hold, in another order.
use Rattle.std.proofs.Common.{◌≡◌, List, [], ◌∷◌, ◌++◌, Bool, refl, sym, ◌∙◌, ap, subst, append_assoc, ℕ, zero, suc, ◌+◌, ◌-◌, ◌≤◌, ◌==◌, true, false, cond, length, take, drop, arith, append-nil}
use Rattle.std.specs.Prelude.{ℤ, None, Some, Result, Ok, Err, IfOk, filter}
use Rattle.std.specs.List.Sorted.{IsPermutation}
use Rattle.std.proofs.lemmas.List.Sorted.{IsPermutation-refl, IsPermutation-sym, IsPermutation-trans, IsPermutation-append_comm, IsPermutation-append_left, IsPermutation-append_right, IsPermutation-append, Contains-permutation}
use Rattle.tab_key.specs.Records.{Record}
use Rattle.tab_key.specs.Sorted.{sorted, IsDistinct}
use Rattle.tab_key.proofs.Rising.{in_from, in_to, in_sorted, sorted_in, rising_sorted, same_rising}
use Rattle.tab_key.proofs.Sorting.{distinct_permuted}
use Rattle.tab_iter.specs.Bags.{flat}
use Rattle.tab_iter.proofs.BagLaws.{sorted_filter}
use Rattle.tab_version.specs.Sources.{Sorted, Sources, records_of, clipped}
use Rattle.tab_tablet.specs.MergedRunLists.{MergedRuns, held_by}
use Rattle.tab_tablet.specs.MergedRuns.{held_in, AreMergedRuns, Freezes, IsFreezeOf, merged_runs_after}
use Rattle.tab_tablet.proofs.Cut.{runs_cut}
use Rattle.tab_tablet.proofs.Gathered.{permuted_sorted, flat_more}
use Rattle.tab_tablet.proofs.Moved.{distinct_left, distinct_right}
use Rattle.tab_tablet.proofs.Compacted.{frozen_distinct_in}
use Rattle.tab_cells.specs.declared.compaction.Compaction.{Compaction}
use Rattle.tab_cells.specs.declared.compaction.Compaction.TheVariants.{Minor, Partial, Full}
use Rattle.tab_compact.specs.Merges.{inputs_of, captured}
use Rattle.tab_version.specs.Sources.{count_of}
use Rattle.tab_tablet.specs.Tablets.{Tablet, run_of, records_in}
use Rattle.tab_tablet.specs.Spared.{sources_after}
use Rattle.tab_tablet.specs.declared.freeze.Freeze.{Freeze}
use Rattle.std.proofs.lemmas.Bool.Decides.{Decides-eqb}
use Rattle.std.proofs.lemmas.List.{nil_from_length}
use mathlib.Core.Bool.{true≢false}

-- ---- the same records
-- in another order they are sorted to one list
pub sorted_once : (xs ys : List Record) → IsDistinct xs → IsPermutation xs ys → sorted xs ≡ sorted ys
sorted_once xs ys d p =
    same_rising (sorted xs) (sorted ys) (rising_sorted xs d) (rising_sorted ys (distinct_permuted xs ys p d))
    (λ u h. sorted_in ys u (in_from ys u (Contains-permutation xs ys u p (in_to xs u (in_sorted xs u h)))))
    (λ u h. sorted_in xs u (in_from xs u (Contains-permutation ys xs u (IsPermutation-sym xs ys p) (in_to ys u (in_sorted ys u h)))))

-- lists that are sorted to one list hold the same records
pub same_sorted : (xs ys : List Record) → sorted xs ≡ sorted ys → IsPermutation xs ys
same_sorted xs ys e = IsPermutation-trans xs (sorted ys) ys (subst (IsPermutation xs) e (permuted_sorted xs)) (IsPermutation-sym ys (sorted ys) (permuted_sorted ys))

-- so do those of them that pass
pub filter_once : (p : Record → Bool) (xs ys : List Record) → IsDistinct xs → IsPermutation xs ys → sorted (filter p xs) ≡ sorted (filter p ys)
filter_once p xs ys d q = sorted_filter p xs d ∙ ap (filter p) (sorted_once xs ys d q) ∙ sym (sorted_filter p ys (distinct_permuted xs ys q d))

pub filter_permuted : (p : Record → Bool) (xs ys : List Record) → IsDistinct xs → IsPermutation xs ys → IsPermutation (filter p xs) (filter p ys)
filter_permuted p xs ys d q = same_sorted (filter p xs) (filter p ys) (filter_once p xs ys d q)

-- ---- reading
-- merged runs and tables hold what runs and tables hold
pub read_permuted : (s : Sources) (b : MergedRuns) → AreMergedRuns s.runs b → IsPermutation (records_of s) (held_by b ++ held_in s.tables)
read_permuted s b p = IsPermutation-append_left (held_in s.tables) (flat s.runs) (held_by b) p

pub read_once : (p : Record → Bool) (s c : Sources) (b : MergedRuns) → AreMergedRuns s.runs b → IsDistinct (records_of s) → records_of c ≡ filter p (held_by b ++ held_in s.tables) → sorted (records_of c) ≡ sorted (filter p (records_of s))
read_once p s c b q d is = ap sorted is ∙ sym (filter_once p (records_of s) (held_by b ++ held_in s.tables) d (read_permuted s b q))

-- cut to rows they still do
pub merged_runs_cut : (p : List ℕ → Bool) (s : Sources) (b cut : MergedRuns) → AreMergedRuns s.runs b → IsDistinct (records_of s) → held_by cut ≡ filter (λ u. p u.key.row) (held_by b) → AreMergedRuns (clipped p s).runs cut
merged_runs_cut p s b cut q d is =
    let seen : Record → Bool = λ u. p u.key.row in
    subst (λ l. IsPermutation l (held_by cut)) (sym (runs_cut seen s.runs))
    (subst (IsPermutation (filter seen (flat s.runs))) (sym is)
    (filter_permuted seen (flat s.runs) (held_by b) (distinct_left (flat s.runs) (held_in s.tables) d) q))

-- ---- one more run
-- the first merged runs and the others
flat_parts : (n : ℕ) (bs : List (List Record)) → flat bs ≡ flat (take n bs) ++ flat (drop n bs)
flat_parts zero [] = refl
flat_parts zero (b ∷ bs) = refl
flat_parts (suc n) [] = refl
flat_parts (suc n) (b ∷ bs) = ap (λ l. b ++ l) (flat_parts n bs) ∙ sym (append_assoc b (flat (take n bs)) (flat (drop n bs)))

-- merged runs and a run, as the only sources
pub inputs_held : (merged_runs items : List (List Record)) (run : List Record) (tables : List Sorted) (s : Sources) → items ≡ merged_runs ++ run ∷ [] → tables ≡ [] → s ≡ record { runs = items; tables = tables } → records_of s ≡ flat merged_runs ++ run
inputs_held merged_runs items run tables s more none is = ap records_of is ∙ (λ i. flat (more i) ++ held_in (none i)) ∙ append-nil (flat (merged_runs ++ run ∷ [])) ∙ flat_more merged_runs run

module _ (run : List Record) where
  -- as a merged run of its own
  pub with_beside : (b : MergedRuns) → IsPermutation (run ++ held_by b) (held_by (record b { shared = b.shared ++ run ∷ [] }))
  with_beside b =
      subst (λ l. IsPermutation (run ++ held_by b) (l ++ flat b.merged)) (sym (flat_more b.shared run))
      (subst (λ l. IsPermutation l ((flat b.shared ++ run) ++ flat b.merged)) (append_assoc run (flat b.shared) (flat b.merged))
      (IsPermutation-append_left (flat b.merged) (run ++ flat b.shared) (flat b.shared ++ run) (IsPermutation-append_comm run (flat b.shared))))

  -- merged with some of the merged runs: x the shared ones, a the merged ones that stay, z the ones that are merged with it
  moved : (x a z : List Record) → IsPermutation (run ++ (x ++ (a ++ z))) (x ++ (a ++ sorted (z ++ run)))
  moved x a z =
      let behind : (x ++ (a ++ z)) ++ run ≡ x ++ (a ++ (z ++ run)) = append_assoc x (a ++ z) run ∙ ap (λ l. x ++ l) (append_assoc a z run) in
      IsPermutation-trans (run ++ (x ++ (a ++ z))) ((x ++ (a ++ z)) ++ run) (x ++ (a ++ sorted (z ++ run)))
      (IsPermutation-append_comm run (x ++ (a ++ z)))
      (subst (λ l. IsPermutation l (x ++ (a ++ sorted (z ++ run)))) (sym behind)
      (IsPermutation-append_right x (a ++ (z ++ run)) (a ++ sorted (z ++ run)) (IsPermutation-append_right a (z ++ run) (sorted (z ++ run)) (permuted_sorted (z ++ run)))))

  pub with_merged : (b : MergedRuns) (n : ℕ) (one : List Record) → one ≡ sorted (flat (drop n b.merged) ++ run) → IsPermutation (run ++ held_by b) (held_by (record b { merged = take n b.merged ++ one ∷ [] }))
  with_merged b n one is =
      subst (λ l. IsPermutation (run ++ (flat b.shared ++ l)) (held_by (record b { merged = take n b.merged ++ one ∷ [] }))) (sym (flat_parts n b.merged))
      (subst (λ l. IsPermutation (run ++ (flat b.shared ++ (flat (take n b.merged) ++ flat (drop n b.merged)))) (flat b.shared ++ l)) (sym (flat_more (take n b.merged) one ∙ ap (λ l. flat (take n b.merged) ++ l) is))
      (moved (flat b.shared) (flat (take n b.merged)) (flat (drop n b.merged))))

-- the records of the run and of the last merged runs are held once
pub distinct_merged : (run : List Record) (b : MergedRuns) (n : ℕ) → IsDistinct (run ++ held_by b) → IsDistinct (flat (drop n b.merged) ++ run)
distinct_merged run b n d =
    let x : List Record = flat b.shared in
    let a : List Record = flat (take n b.merged) in
    let z : List Record = flat (drop n b.merged) in
    let all : IsDistinct (run ++ (x ++ (a ++ z))) = subst (λ l. IsDistinct (run ++ (x ++ l))) (flat_parts n b.merged) d in
    let behind : (x ++ (a ++ z)) ++ run ≡ (x ++ a) ++ (z ++ run) = ap (λ l. l ++ run) (sym (append_assoc x a z)) ∙ append_assoc (x ++ a) z run in
    let moves : IsPermutation (run ++ (x ++ (a ++ z))) ((x ++ a) ++ (z ++ run)) = subst (IsPermutation (run ++ (x ++ (a ++ z)))) behind (IsPermutation-append_comm run (x ++ (a ++ z))) in
    distinct_right (x ++ a) (z ++ run) (distinct_permuted (run ++ (x ++ (a ++ z))) ((x ++ a) ++ (z ++ run)) moves all)

take_all : (k : ℕ) (bs : List (List Record)) → length bs ≤ k → take k bs ≡ bs
take_all zero [] le = refl
take_all (suc k) [] le = refl
take_all zero (b ∷ bs) le = absurd (omega arith)
take_all (suc k) (b ∷ bs) le = ap (λ l. b ∷ l) (take_all k bs (omega arith))

pub slice_rest : (n : ℕ) (bs : List (List Record)) → n ≤ length bs → take (length bs - n) (drop n bs) ≡ drop n bs
slice_rest zero bs le = take_all (length bs - 0) bs (omega arith)
slice_rest (suc n) [] le = take_all (0 - suc n) [] (omega arith)
slice_rest (suc n) (b ∷ bs) le = let e : length (b ∷ bs) - suc n ≡ length bs - n = omega arith in ap (λ k. take k (drop n bs)) e ∙ slice_rest n bs (omega arith)

-- the merged runs with the run are those of the runs with it
pub merged_runs_more : (runs : List (List Record)) (run : List Record) (b more : MergedRuns) → AreMergedRuns runs b → IsPermutation (run ++ held_by b) (held_by more) → AreMergedRuns (runs ++ run ∷ []) more
merged_runs_more runs run b more q p =
    subst (λ l. IsPermutation l (held_by more)) (sym (flat_more runs run))
    (IsPermutation-trans (flat runs ++ run) (run ++ flat runs) (held_by more) (IsPermutation-append_comm (flat runs) run)
    (IsPermutation-trans (run ++ flat runs) (run ++ held_by b) (held_by more) (IsPermutation-append_right run (flat runs) (held_by b) q) p))

-- ---- reading, if memory suffices
pub read_ok : {E : Type 0} (p : Record → Bool) (s : Sources) (b : MergedRuns) (ts : List Sorted) (r : Result Sources E) → AreMergedRuns s.runs b → IsDistinct (records_of s) → ts ≡ s.tables → IfOk r (λ c. records_of c ≡ filter p (held_by b ++ held_in ts)) → IfOk r (λ c. sorted (records_of c) ≡ sorted (filter p (records_of s)))
read_ok p s b ts (Ok c) q d e is = read_once p s c b q d (is ∙ ap (λ l. filter p (held_by b ++ held_in l)) e)
read_ok p s b ts (Err x) q d e is = is

-- ---- a freeze
-- of some records there is a run
pub run_some : (us : List Record) → (length us == 0) ≡ false → run_of us ≡ sorted us ∷ []
run_some [] e = absurd (true≢false e)
run_some (u ∷ us) e = refl

pub distinct_with : (active run : List Record) (s : Sources) (b : MergedRuns) → IsDistinct (active ++ records_of s) → run ≡ sorted active → AreMergedRuns s.runs b → IsDistinct (run ++ held_by b)
distinct_with active run s b d e q =
    subst (λ l. IsDistinct (l ++ held_by b)) (sym e)
    (distinct_permuted (active ++ flat s.runs) (sorted active ++ held_by b)
    (IsPermutation-append active (sorted active) (flat s.runs) (held_by b) (permuted_sorted active) q)
    (distinct_left (active ++ flat s.runs) (held_in s.tables) (subst IsDistinct (sym (append_assoc active (flat s.runs) (held_in s.tables))) d)))

pub freeze_is : (active : List Record) (s : Sources) (b : MergedRuns) (f : Freeze) → (length active == 0) ≡ false → f.run ≡ sorted active → AreMergedRuns s.runs b → IsPermutation (f.run ++ held_by b) (held_by f.merged_runs) → Freezes active s f
freeze_is active s b f some e q p = record { run = run_some active some ∙ ap (λ l. l ∷ []) (sym e); merged_runs = merged_runs_more s.runs f.run b f.merged_runs q p }

-- the frozen tablet holds no record twice
pub freeze_distinct : (t : Tablet) (f : Freeze) (s : Sources) → IsFreezeOf t f → IsDistinct (records_in t) → s ≡ record (t.sources) { runs = t.sources.runs ++ f.run ∷ [] } → IsDistinct (records_of s)
freeze_distinct t f s is d e = subst (λ (x : Sources). IsDistinct (records_of x)) (sym (e ∙ ap (λ l. record (t.sources) { runs = t.sources.runs ++ l }) (sym is.run))) (frozen_distinct_in t d)

-- ---- a compaction
no_runs : (runs : List (List Record)) (n : ℕ) → (length runs + n == 0) ≡ true → runs ≡ []
no_runs runs n e = let z = (Decides-eqb (length runs + n) 0).0 e in nil_from_length runs (omega (arith, z))

none_held : (runs : List (List Record)) (n : ℕ) → (length runs + n == 0) ≡ true → IsPermutation (flat runs) []
none_held runs n e = subst (λ (l : List (List Record)). IsPermutation (flat l) []) (sym (no_runs runs n e)) (IsPermutation-refl [])

pub merged_runs_compacted : (tablet : ℕ) (kind : Compaction) (floor : ℤ) (n : ℕ) (s : Sources) (b : MergedRuns) → AreMergedRuns s.runs b → AreMergedRuns (sources_after kind (captured tablet 0 kind floor n s) s).runs (merged_runs_after kind b)
merged_runs_compacted tablet kind floor n s b q = go kind (count_of (inputs_of kind s) == 0) refl
  where
    go : (k : Compaction) (v : Bool) → (count_of (inputs_of k s) == 0) ≡ v → AreMergedRuns (sources_after k (cond v None (Some (record { tablet = tablet; number = 0; kind = k; inputs = inputs_of k s; floor = floor; versions = n }))) s).runs (merged_runs_after k b)
    go Minor true e = none_held s.runs 0 e
    go Minor false e = IsPermutation-refl []
    go Partial true e = q
    go Partial false e = q
    go Full true e = none_held s.runs (length s.tables) e
    go Full false e = IsPermutation-refl []
