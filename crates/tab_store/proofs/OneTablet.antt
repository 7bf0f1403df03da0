-- What is done to one tablet leaves it refining the updates in its rows.
use Rattle.std.proofs.Common.{◌≡◌, ◌⊎◌, inl, inr, ℕ, ◌+◌, ◌≤◌, List, ◌++◌, Bool, true, false, cond, ◌&&◌, ◌==◌, refl, sym, subst, arith}
use Rattle.std.specs.Prelude.{ℤ, int_le, Contains, Option, Some, None}
use Rattle.std.specs.List.Sorted.{IsPermutation}
use Rattle.std.specs.Cmp.{first_so, second_so, tied_itself}
use Rattle.std.specs.Ordering.{int_eq}
use Rattle.std.proofs.lemmas.Bool.Decides.{Decides-int_eq}
use Rattle.std.proofs.lemmas.List.Sorted.{IsPermutation-sym, Contains-permutation}
use mathlib.Core.Bool.{true≢false}
use Rattle.tab_key.specs.Records.{Record}
use Rattle.tab_key.specs.Sorted.{IsIn}
use Rattle.tab_key.proofs.Order.{record_cmp_total}
use Rattle.tab_key.proofs.Rising.{in_from, in_to}
use Rattle.tab_key.proofs.Sorting.{distinct_permuted}
use Rattle.tab_cells.specs.Written.{records_of as written_records}
use Rattle.tab_cells.specs.Compactions.{is_full}
use Rattle.tab_cells.specs.Merged.{merged}
use Rattle.tab_cells.specs.declared.compaction.Compaction.{Compaction}
use Rattle.tab_cells.specs.declared.compaction.Compaction.TheVariants.{Minor, Partial, Full}
use Rattle.tab_cells.proofs.Lists.{in_append, in_left, in_right}
use Rattle.tab_iter.specs.Bags.{flat}
use Rattle.tab_tablets.specs.Sources.{Sources, records_of, count_of, same_sources, same_lists, same_contents, same_table, left_by}
use Rattle.tab_tablets.specs.Merges.{Merge, output, inputs_of, is_under_way}
use Rattle.tab_tablets.specs.Tablets.{Jobs, Tablet, job_of, with_job, records_in, written, frozen, replaced, replaced_in, begun, merged_by, fitting, sources_told, installs}
use Rattle.tab_tablets.specs.declared.Installed.{Installed}
use Rattle.tab_tablets.specs.declared.Installed.TheVariants.{Stale}
use Rattle.tab_tablets.proofs.Moved.{in_output, distinct_left, distinct_apart, frozen_permuted, written_moved, output_beside, beside, replaced_permuted, parted}
use Rattle.tab_tablets.proofs.Parted.{some_is, nat_same, runs_same, tables_same}
use Rattle.tab_history.specs.Held.{RefinesTable}
use Rattle.tab_history.proofs.HeldWrite.{le_itself_z, le_trans_z}
use Rattle.tab_history.proofs.Holds.{holds_members, holds_higher, holds_written}
use Rattle.tab_store.specs.Keeping.{MayInstall, MayAllInstall, TabletRefines, FreezesKeep, WritesKeep, CompactionsKeep, BeginningsKeep, InstallsKeep, LaterKeeps}
use Rattle.tab_store.proofs.HeldMerge.{output as merge_output, merged_refines}

-- ---- the same records in another order
pub permuted_refines : (held other us : List Record) (next n : ℕ) (floor : ℤ) → IsPermutation held other → RefinesTable held us next n floor → RefinesTable other us next n floor
permuted_refines held other us next n floor p h = holds_members held other us next n floor
    (λ u k. in_from other u (Contains-permutation held other u p (in_to held u k)))
    (λ u k. in_from held u (Contains-permutation other held u (IsPermutation-sym held other p) (in_to other u k)))
    (distinct_permuted held other p h.held_once) h

in_other : (held other : List Record) → IsPermutation held other → (u : Record) → IsIn other u → IsIn held u
in_other held other p u k = in_from held u (Contains-permutation other held u (IsPermutation-sym held other p) (in_to other u k))

-- ---- merges under way
-- where less is held, one may still be installed
may_with_less : (kind : Compaction) (m : Merge) (held other : List Record) (n : ℕ) (floor : ℤ) → ((u : Record) → IsIn other u → IsIn held u) → MayInstall kind m held n floor → MayInstall kind m other n floor
may_with_less kind m held other n floor f o = record { enough = o.enough; lower = o.lower; above = λ w u c. o.above w u (in_to held u (f u (in_from other u c))) }

-- the one that was set, or one that was there
which_job : (k kind : Compaction) (o : Option Merge) (jobs : Jobs) (m : Merge) → job_of k (with_job kind o jobs) ≡ Some m → ((k ≡ kind) × (o ≡ Some m)) ⊎ (job_of k jobs ≡ Some m)
which_job Minor Minor o jobs m e = inl (refl, e)
which_job Partial Partial o jobs m e = inl (refl, e)
which_job Full Full o jobs m e = inl (refl, e)
which_job Minor Partial o jobs m e = inr e
which_job Minor Full o jobs m e = inr e
which_job Partial Minor o jobs m e = inr e
which_job Partial Full o jobs m e = inr e
which_job Full Minor o jobs m e = inr e
which_job Full Partial o jobs m e = inr e

-- the others, once that of a kind is gone
others_may : (kind : Compaction) (jobs : Jobs) (held other : List Record) (n : ℕ) (floor : ℤ) → ((u : Record) → IsIn other u → IsIn held u) → MayAllInstall jobs held n floor → MayAllInstall (with_job kind None jobs) other n floor
others_may kind jobs held other n floor f may k m e = go (which_job k kind None jobs m e)
  where
    go : ((k ≡ kind) × (None ≡ Some m)) ⊎ (job_of k jobs ≡ Some m) → MayInstall k m other n floor
    go (inl q) = absurd (none_is q.1)
      where
        none_is : None ≡ Some m → ⊥
        none_is z = cc
    go (inr q) = may_with_less k m held other n floor f (may k m q)

-- ---- a freeze
pub freezes_keep : FreezesKeep
freezes_keep t us next n floor h = record {
  refines = permuted_refines (records_in t) (records_in (frozen t)) us next n floor (frozen_permuted t) h.refines;
  jobs = λ k m e. may_with_less k m (records_in t) (records_in (frozen t)) n floor (in_other (records_in t) (records_in (frozen t)) (frozen_permuted t)) (h.jobs k m e);
}

-- ---- a merge's output in the place of its inputs
-- A merge of some of the held records may take their place: if it is full, all others lie at or above its floor.
pub merged_beside : (m : Merge) (rest us : List Record) (next n : ℕ) (floor : ℤ) → RefinesTable (records_of m.inputs ++ rest) us next n floor → n ≤ m.versions → int_le m.floor floor ≡ true
    → (is_full m.kind ≡ true → (u : Record) → IsIn rest u → int_le m.floor u.key.timestamp ≡ true) → RefinesTable (output m ++ rest) us next n floor
unfolding merged merge_output
merged_beside m rest us next n floor h more lower above = record {
  refines = merged_refines (records_of m.inputs) rest us n m.versions floor m.floor (is_full m.kind) h.refines (distinct_left (records_of m.inputs) rest h.held_once) more lower (λ f u k b i c. above f u b);
  held_once = output_beside m rest h.held_once;
  updates_once = h.updates_once;
  numbered = h.numbered;
}

-- The inputs of a merge that are found among the sources of a tablet may be replaced: if it is full, each record that the tablet holds is
-- among its inputs, or lies at or above its floor.
module _ (m : Merge) (t : Tablet) (left : Sources) (found : left_by m.inputs t.sources ≡ Some left) (us : List Record) (next n : ℕ) (floor : ℤ) (h : TabletRefines t us next n floor) where
  whole : RefinesTable (records_of m.inputs ++ beside m t left) us next n floor
  whole = permuted_refines (records_in t) (records_of m.inputs ++ beside m t left) us next n floor (parted m t left found) h.refines

  was_held : (u : Record) → IsIn (beside m t left) u → IsIn (records_in t) u
  was_held u k = in_other (records_in t) (records_of m.inputs ++ beside m t left) (parted m t left found) u (in_right (records_of m.inputs) (beside m t left) u k)

  -- what lies beside the inputs isn't among them, since no record is held twice
  other : (u : Record) → IsIn (beside m t left) u → Contains (records_of m.inputs) u ⊎ (int_le m.floor u.key.timestamp ≡ true) → int_le m.floor u.key.timestamp ≡ true
  other u b (inl c) = absurd (distinct_apart (records_of m.inputs) (beside m t left) whole.held_once u u (in_from (records_of m.inputs) u c) b (tied_itself record_cmp_total u))
  other u b (inr e) = e

  -- what is held then was held
  still_held : (u : Record) → IsIn (records_in (replaced m left t)) u → IsIn (records_in t) u
  still_held u k = go (in_append (output m) (beside m t left) u (in_other (output m ++ beside m t left) (records_in (replaced m left t)) (replaced_permuted m t left) u k))
    where
      back : IsIn (records_of m.inputs ++ beside m t left) u → IsIn (records_in t) u
      back j = in_other (records_in t) (records_of m.inputs ++ beside m t left) (parted m t left found) u j

      go : IsIn (output m) u ⊎ IsIn (beside m t left) u → IsIn (records_in t) u
      go (inl j) = back (in_left (records_of m.inputs) (beside m t left) u (in_output m u j))
      go (inr j) = back (in_right (records_of m.inputs) (beside m t left) u j)

  pub replaced_refines : MayInstall m.kind m (records_in t) n floor → TabletRefines (replaced m left t) us next n floor
  replaced_refines may = record {
    refines = permuted_refines (output m ++ beside m t left) (records_in (replaced m left t)) us next n floor (replaced_permuted m t left)
        (merged_beside m (beside m t left) us next n floor whole may.enough may.lower (λ f u b. other u b (may.above f u (in_to (records_in t) u (was_held u b)))));
    jobs = others_may m.kind t.jobs (records_in t) (records_in (replaced m left t)) n floor still_held h.jobs;
  }

-- ---- whole compactions, and their first part
le_itself : (n : ℕ) → n ≤ n
le_itself n = omega arith

-- the merge that is captured
abbrev captures : ℕ → Compaction → Tablet → ℤ → ℕ → Merge
captures number kind t floor n = record { tablet = t.number; number = number; kind = kind; inputs = inputs_of kind (frozen t).sources; floor = floor; versions = n }

-- a full one reads all that is held
captured_may : (number : ℕ) (kind : Compaction) (t : Tablet) (n : ℕ) (floor : ℤ) → MayInstall kind (captures number kind t floor n) (records_in (frozen t)) n floor
captured_may number Minor t n floor = record { enough = le_itself n; lower = le_itself_z floor; above = λ e u c. absurd (true≢false (sym e)) }
captured_may number Partial t n floor = record { enough = le_itself n; lower = le_itself_z floor; above = λ e u c. absurd (true≢false (sym e)) }
captured_may number Full t n floor = record { enough = le_itself n; lower = le_itself_z floor; above = λ e u c. inl c }

pub compactions_keep : CompactionsKeep
compactions_keep kind t us next n floor h = go (count_of (inputs_of kind (frozen t).sources) == 0)
  where
    f : TabletRefines (frozen t) us next n floor
    f = freezes_keep t us next n floor h

    by_left : (o : Option Sources) → left_by (inputs_of kind (frozen t).sources) (frozen t).sources ≡ o → TabletRefines (replaced_in (captures 0 kind t floor n) o (frozen t)) us next n floor
    by_left None e = f
    by_left (Some left) e = replaced_refines (captures 0 kind t floor n) (frozen t) left e us next n floor f (captured_may 0 kind t n floor)

    go : (v : Bool) → TabletRefines (merged_by (cond v None (Some (captures 0 kind t floor n))) (frozen t)) us next n floor
    go true = f
    go false = by_left (left_by (inputs_of kind (frozen t).sources) (frozen t).sources) refl

pub beginnings_keep : BeginningsKeep
beginnings_keep number kind t us next n floor h = go (count_of (inputs_of kind (frozen t).sources) == 0)
  where
    f : TabletRefines (frozen t) us next n floor
    f = freezes_keep t us next n floor h

    may : MayAllInstall (with_job kind (Some (captures number kind t floor n)) t.jobs) (records_in (frozen t)) n floor
    may k m e = which (which_job k kind (Some (captures number kind t floor n)) t.jobs m e)
      where
        which : ((k ≡ kind) × (Some (captures number kind t floor n) ≡ Some m)) ⊎ (job_of k t.jobs ≡ Some m) → MayInstall k m (records_in (frozen t)) n floor
        which (inl q) = subst (λ x. MayInstall x m (records_in (frozen t)) n floor) (sym q.0) (subst (λ x. MayInstall kind x (records_in (frozen t)) n floor) (some_is (captures number kind t floor n) m q.1) (captured_may number kind t n floor))
        which (inr q) = f.jobs k m q

    go : (v : Bool) → TabletRefines (begun (cond v None (Some (captures number kind t floor n))) (frozen t)) us next n floor
    go true = f
    go false = record { refines = f.refines; jobs = may }

-- ---- their last part
-- what equals the merge under way may be installed where that may
same_may : (kind : Compaction) (m j : Merge) (held : List Record) (n : ℕ) (floor : ℤ) → is_under_way m (Some j) ≡ true → MayInstall kind j held n floor → MayInstall kind m held n floor
same_may kind m j held n floor e o =
    let e1 = first_so (same_sources m.inputs j.inputs && int_eq m.floor j.floor) (m.versions == j.versions) e in
    let e2 = first_so (same_sources m.inputs j.inputs) (int_eq m.floor j.floor) e1 in
    let versions : m.versions ≡ j.versions = nat_same m.versions j.versions (second_so (same_sources m.inputs j.inputs && int_eq m.floor j.floor) (m.versions == j.versions) e) in
    let low : m.floor ≡ j.floor = (Decides-int_eq m.floor j.floor).0 (second_so (same_sources m.inputs j.inputs) (int_eq m.floor j.floor) e1) in
    let runs = runs_same m.inputs.runs j.inputs.runs (first_so (same_lists same_contents m.inputs.runs j.inputs.runs) (same_lists same_table m.inputs.tables j.inputs.tables) e2) in
    let tables = tables_same m.inputs.tables j.inputs.tables (second_so (same_lists same_contents m.inputs.runs j.inputs.runs) (same_lists same_table m.inputs.tables j.inputs.tables) e2) in
    let same : records_of m.inputs ≡ records_of j.inputs = λ i. flat (runs i) ++ flat (tables i) in
    record {
      enough = subst (λ k. n ≤ k) (sym versions) o.enough;
      lower = subst (λ k. int_le k floor ≡ true) (sym low) o.lower;
      above = λ f u c. subst (λ k. Contains (records_of m.inputs) u ⊎ (int_le k u.key.timestamp ≡ true)) (sym low) (subst (λ l. Contains l u ⊎ (int_le j.floor u.key.timestamp ≡ true)) (sym same) (o.above f u c));
    }

pub installs_keep : InstallsKeep
installs_keep m t us next n floor h = here (t.number == m.tablet)
  where
    stale : TabletRefines (record t { jobs = with_job m.kind None t.jobs }) us next n floor
    stale = record { refines = h.refines; jobs = others_may m.kind t.jobs (records_in t) (records_in t) n floor (λ u k. k) h.jobs }

    by_left : (j : Merge) → job_of m.kind t.jobs ≡ Some j → is_under_way m (Some j) ≡ true → (o : Option Sources) → left_by m.inputs t.sources ≡ o → TabletRefines (installs m o t).1 us next n floor
    by_left j q e None p = stale
    by_left j q e (Some left) p = replaced_refines m t left p us next n floor h (same_may m.kind m j (records_in t) n floor e (h.jobs m.kind j q))

    by_match : (j : Merge) → job_of m.kind t.jobs ≡ Some j → (v : Bool) → is_under_way m (Some j) ≡ v → TabletRefines (installs m (cond v (left_by m.inputs t.sources) None) t).1 us next n floor
    by_match j q true e = by_left j q e (left_by m.inputs t.sources) refl
    by_match j q false e = stale

    go : (o : Option Merge) → job_of m.kind t.jobs ≡ o → TabletRefines (installs m (cond (is_under_way m o) (left_by m.inputs t.sources) None) t).1 us next n floor
    go None q = stale
    go (Some j) q = by_match j q (is_under_way m (Some j)) refl

    here : (v : Bool) → TabletRefines (cond {A = Installed × Tablet} v (installs m (fitting m t) t) (Stale (sources_told t), t)).1 us next n floor
    here true = go (job_of m.kind t.jobs) refl
    here false = h

-- ---- writes, and time that passes
pub writes_keep : WritesKeep
writes_keep t us next n floor row ps recent h = record {
  refines = permuted_refines (new ++ records_in t) (records_in (written new t)) (new ++ us) (next + 1) n floor (written_moved new t) (holds_written (records_in t) us next n floor row ps (λ u i. recent u (in_to new u i)) h.refines);
  jobs = λ k m e. let o = h.jobs k m e in record {
    enough = o.enough;
    lower = o.lower;
    above = λ f u c. above k m o f u (in_append new (records_in t) u (in_other (new ++ records_in t) (records_in (written new t)) (written_moved new t) u (in_from (records_in (written new t)) u c)));
  };
}
  where
    new : List Record
    new = written_records next row ps

    -- what is written lies at or above the floor
    above : (k : Compaction) (m : Merge) → MayInstall k m (records_in t) n floor → is_full k ≡ true → (u : Record) → IsIn new u ⊎ IsIn (records_in t) u → Contains (records_of m.inputs) u ⊎ (int_le m.floor u.key.timestamp ≡ true)
    above k m o f u (inl i) = inr (le_trans_z m.floor floor u.key.timestamp o.lower (recent u (in_to new u i)))
    above k m o f u (inr i) = o.above f u (in_to (records_in t) u i)

pub later_keeps : LaterKeeps
later_keeps t us next n floor higher le h = record {
  refines = holds_higher (records_in t) us next n floor higher le h.refines;
  jobs = λ k m e. let o = h.jobs k m e in record { enough = o.enough; lower = le_trans_z m.floor floor higher o.lower le; above = o.above };
}
