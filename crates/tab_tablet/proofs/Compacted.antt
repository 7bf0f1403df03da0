-- A tablet after a whole compaction, by what its sources then are.
use Rattle.std.proofs.Common.{◌≡◌, ◌⊎◌, inl, inr, ℕ, List, [], ◌++◌, Bool, true, false, cond, ◌==◌, refl, sym, ◌∙◌, ap, subst, length, append-nil}
use Rattle.std.specs.List.Sorted.{IsPermutation}
use Rattle.std.proofs.lemmas.Bool.Decides.{Decides-eqb}
use Rattle.std.proofs.lemmas.List.{nil_from_length}
use Rattle.std.proofs.lemmas.List.Sorted.{IsPermutation-sym, Contains-permutation}
use Rattle.std.specs.Prelude.{ℤ, Option, Some, None}
use Rattle.tab_key.specs.Records.{Record}
use Rattle.tab_key.specs.Sorted.{sorted, IsDistinct, IsIn}
use Rattle.tab_key.proofs.Rising.{in_from, in_to, in_sorted, sorted_in, rising_sorted, same_rising}
use Rattle.tab_key.proofs.Sorting.{distinct_permuted}
use Rattle.tab_cells.specs.declared.compaction.Compaction.{Compaction}
use Rattle.tab_cells.proofs.Lists.{in_left, in_right, in_append}
use Rattle.tab_version.specs.Sources.{Sources, records_of, count_of, left_by}
use Rattle.tab_compact.specs.Merges.{Merge, output, inputs_of, captured}
use Rattle.tab_tablet.specs.Tablets.{Tablet, no_jobs, with_job, run_of, records_in, frozen, capture, replaced, replaced_in, merged_by, compacted}
use Rattle.tab_tablet.specs.Spared.{spared, sources_after, jobs_after}
use Rattle.tab_tablet.proofs.Captures.{captures_leave}
use Rattle.tab_tablet.proofs.Moved.{frozen_permuted, replaced_distinct, in_output, beside, replaced_permuted, parted}
use Rattle.tab_tablet.proofs.Parted.{some_is}

-- ---- freezing
-- no record is held twice once they are frozen
pub frozen_distinct_in : (t : Tablet) → IsDistinct (records_in t) → IsDistinct (records_in (frozen t))
frozen_distinct_in t d = distinct_permuted (records_in t) (records_in (frozen t)) (frozen_permuted t) d

-- where nothing waits to be frozen
pub none_waits : (t : Tablet) → (length t.active == 0) ≡ true → t.active ≡ []
none_waits t e = nil_from_length t.active ((Decides-eqb (length t.active) 0).0 e)

-- a freeze changes nothing there
pub frozen_itself : (t : Tablet) → t.active ≡ [] → frozen t ≡ t
frozen_itself t empty =
    (λ i. record t { active = []; sources = record (t.sources) { runs = t.sources.runs ++ run_of (empty i) } })
    ∙ (λ i. record t { active = sym empty i; sources = record (t.sources) { runs = append-nil t.sources.runs i } })

-- ---- compactions
-- what a merge that is captured reads
pub captured_inputs : (tablet number : ℕ) (kind : Compaction) (floor : ℤ) (n : ℕ) (s : Sources) (m : Merge) → captured tablet number kind floor n s ≡ Some m → m.inputs ≡ inputs_of kind s
captured_inputs tablet number kind floor n s m e = go (count_of (inputs_of kind s) == 0) e
  where
    go : (v : Bool) → cond v None (Some (record { tablet = tablet; number = number; kind = kind; inputs = inputs_of kind s; floor = floor; versions = n })) ≡ Some m → m.inputs ≡ inputs_of kind s
    go true q = absurd (cc)
    go false q = ap (λ (x : Merge). x.inputs) (sym (some_is _ m q))

-- and its kind
pub captured_kind : (tablet number : ℕ) (kind : Compaction) (floor : ℤ) (n : ℕ) (s : Sources) (m : Merge) → captured tablet number kind floor n s ≡ Some m → m.kind ≡ kind
captured_kind tablet number kind floor n s m e = go (count_of (inputs_of kind s) == 0) e
  where
    go : (v : Bool) → cond v None (Some (record { tablet = tablet; number = number; kind = kind; inputs = inputs_of kind s; floor = floor; versions = n })) ≡ Some m → m.kind ≡ kind
    go true q = absurd (cc)
    go false q = ap (λ (x : Merge). x.kind) (sym (some_is _ m q))

-- a frozen tablet with what a compaction merges replaced
abbrev pub merged_from : Compaction → ℤ → ℕ → Tablet → Tablet
merged_from kind floor n f = record f { sources = sources_after kind (captured f.number 0 kind floor n f.sources) f.sources; jobs = jobs_after kind (captured f.number 0 kind floor n f.sources) f.jobs }

pub compacted_is : (kind : Compaction) (floor : ℤ) (n : ℕ) (t : Tablet) → compacted kind floor n t ≡ merged_from kind floor n (frozen t)
compacted_is kind floor n t = go (capture 0 kind floor n t) refl
  where
    go : (o : Option Merge) → capture 0 kind floor n t ≡ o → merged_by o (frozen t) ≡ record (frozen t) { sources = sources_after kind o (frozen t).sources; jobs = jobs_after kind o t.jobs }
    go None e = refl
    go (Some m) e = ap (λ l. replaced_in m l (frozen t)) (captures_leave 0 kind floor n t m e)
        ∙ ap (λ k. record (frozen t) { sources = sources_after kind (Some m) (frozen t).sources; jobs = with_job k None t.jobs }) (captured_kind t.number 0 kind floor n (frozen t).sources m e)

-- no record is held twice
pub compacted_distinct : (kind : Compaction) (floor : ℤ) (n : ℕ) (t : Tablet) → IsDistinct (records_in t) → IsDistinct (records_in (compacted kind floor n t))
compacted_distinct kind floor n t d = go (capture 0 kind floor n t) refl
  where
    f : IsDistinct (records_in (frozen t))
    f = frozen_distinct_in t d

    go : (o : Option Merge) → capture 0 kind floor n t ≡ o → IsDistinct (records_in (merged_by o (frozen t)))
    go None e = f
    go (Some m) e = subst (λ l. IsDistinct (records_in (replaced_in m l (frozen t)))) (sym (captures_leave 0 kind floor n t m e)) (replaced_distinct m (frozen t) (spared kind (frozen t).sources) (captures_leave 0 kind floor n t m e) f)

-- ---- nothing is held that wasn't
permuted_in : (xs ys : List Record) (u : Record) → IsPermutation xs ys → IsIn xs u → IsIn ys u
permuted_in xs ys u p k = in_from ys u (Contains-permutation xs ys u p (in_to xs u k))

pub frozen_in : (t : Tablet) (u : Record) → IsIn (records_in (frozen t)) u → IsIn (records_in t) u
frozen_in t u k = permuted_in (records_in (frozen t)) (records_in t) u (IsPermutation-sym (records_in t) (records_in (frozen t)) (frozen_permuted t)) k

-- what it holds stays, in its order
pub frozen_sorted : (t : Tablet) → IsDistinct (records_in t) → sorted (records_in (frozen t)) ≡ sorted (records_in t)
frozen_sorted t d = same_rising (sorted (records_in (frozen t))) (sorted (records_in t)) (rising_sorted (records_in (frozen t)) (frozen_distinct_in t d)) (rising_sorted (records_in t) d)
    (λ u k. sorted_in (records_in t) u (frozen_in t u (in_sorted (records_in (frozen t)) u k)))
    (λ u k. sorted_in (records_in (frozen t)) u (permuted_in (records_in t) (records_in (frozen t)) u (frozen_permuted t) (in_sorted (records_in t) u k)))

pub replaced_in_held : (m : Merge) (t : Tablet) (left : Sources) → left_by m.inputs t.sources ≡ Some left → (u : Record) → IsIn (records_in (replaced m left t)) u → IsIn (records_in t) u
replaced_in_held m t left found u k = go (in_append (output m) (beside m t left) u (permuted_in (records_in (replaced m left t)) (output m ++ beside m t left) u (IsPermutation-sym (output m ++ beside m t left) (records_in (replaced m left t)) (replaced_permuted m t left)) k))
  where
    back : IsIn (records_of m.inputs ++ beside m t left) u → IsIn (records_in t) u
    back h = permuted_in (records_of m.inputs ++ beside m t left) (records_in t) u (IsPermutation-sym (records_in t) (records_of m.inputs ++ beside m t left) (parted m t left found)) h

    go : IsIn (output m) u ⊎ IsIn (beside m t left) u → IsIn (records_in t) u
    go (inl h) = back (in_left (records_of m.inputs) (beside m t left) u (in_output m u h))
    go (inr h) = back (in_right (records_of m.inputs) (beside m t left) u h)

pub compacted_in : (kind : Compaction) (floor : ℤ) (n : ℕ) (t : Tablet) (u : Record) → IsIn (records_in (compacted kind floor n t)) u → IsIn (records_in t) u
compacted_in kind floor n t u k = frozen_in t u (go (capture 0 kind floor n t) refl k)
  where
    go : (o : Option Merge) → capture 0 kind floor n t ≡ o → IsIn (records_in (merged_by o (frozen t))) u → IsIn (records_in (frozen t)) u
    go None e h = h
    go (Some m) e h = replaced_in_held m (frozen t) (spared kind (frozen t).sources) (captures_leave 0 kind floor n t m e) u (subst (λ l. IsIn (records_in (replaced_in m l (frozen t))) u) (captures_leave 0 kind floor n t m e) h)

-- where nothing waits to be frozen, the sources after a compaction hold no record twice either
pub merged_distinct : (tablet : ℕ) (kind : Compaction) (floor : ℤ) (n : ℕ) (us : List Record) (s : Sources) → us ≡ [] → IsDistinct (us ++ records_of s) → IsDistinct (us ++ records_of (sources_after kind (captured tablet 0 kind floor n s) s))
merged_distinct tablet kind floor n us s empty distinct =
    let t : Tablet = record { number = tablet; end = None; active = []; sources = s; jobs = no_jobs } in
    let same : frozen t ≡ t = λ i. record { number = tablet; end = None; active = []; sources = record s { runs = append-nil s.runs i }; jobs = no_jobs } in
    let whole : compacted kind floor n t ≡ merged_from kind floor n t = compacted_is kind floor n t ∙ ap (merged_from kind floor n) same in
    subst (λ xs. IsDistinct (xs ++ records_of (sources_after kind (captured tablet 0 kind floor n s) s))) (sym empty)
    (subst (λ (f : Tablet). IsDistinct (records_in f)) whole (compacted_distinct kind floor n t (subst (λ xs. IsDistinct (xs ++ records_of s)) empty distinct)))
