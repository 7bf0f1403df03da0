-- The records of runs and of tables, one after another.
use Rattle.std.proofs.Common.{◌≡◌, ℕ, ◌<◌, ◌+◌, List, [], ◌∷◌, ◌++◌, Bool, sym, ◌∙◌, ap, length, take, get_or, append_assoc}
use Rattle.std.specs.Prelude.{filter, map, Contains}
use Rattle.std.proofs.lemmas.List.{take_more, map-append}
use Rattle.tab_key.specs.Records.{Record}
use Rattle.tab_key.specs.Sorted.{sorted}
use Rattle.tab_key.proofs.Rising.{in_from, in_to, in_sorted}
use Rattle.tab_cells.proofs.Lists.{filter_append}
use Rattle.tab_iter.specs.Bags.{flat}
use Rattle.tab_version.specs.Sources.{Sorted}
use Rattle.tab_tablet.specs.MergedRunLists.{MergedRuns, held_by}
pub use Rattle.tab_tablet.specs.MergedRuns.{held_in}
use Rattle.tab_tablet.proofs.Gathered.{flat_more}

-- those of the first runs, and of the next
pub flat_next : (runs : List (List Record)) (i : ℕ) (run : List Record) → i < length runs → run ≡ get_or runs i run → flat (take (i + 1) runs) ≡ flat (take i runs) ++ run
flat_next runs i run lt is = ap flat (take_more runs i run lt ∙ ap (λ x. take i runs ++ x ∷ []) (sym is)) ∙ flat_more (take i runs) run

-- with one more table
pub held_more : (ts : List Sorted) (t : Sorted) → held_in (ts ++ t ∷ []) ≡ held_in ts ++ t.records
held_more ts t = ap flat (map-append (λ (x : Sorted). x.records) ts (t ∷ [])) ∙ flat_more (map (λ (x : Sorted). x.records) ts) t.records

-- of the first tables, and of the next
pub held_next : (ts : List Sorted) (i : ℕ) (t : Sorted) → i < length ts → t ≡ get_or ts i t → held_in (take (i + 1) ts) ≡ held_in (take i ts) ++ t.records
held_next ts i t lt is = ap held_in (take_more ts i t lt ∙ ap (λ x. take i ts ++ x ∷ []) (sym is)) ∙ held_more (take i ts) t

-- the parts of the first tables, and that of the next
pub tables_more : (p : Record → Bool) (tables clips more : List Sorted) (i : ℕ) (table part : Sorted) → i < length tables → table ≡ get_or tables i table → part ≡ record table { records = filter p table.records }
    → held_in clips ≡ filter p (held_in (take i tables)) → held_in more ≡ held_in clips ++ part.records → held_in more ≡ filter p (held_in (take (i + 1) tables))
tables_more p tables clips more i table part lt is of before after =
    after ∙ (λ j. before j ++ (of j).records)
    ∙ sym (filter_append p (held_in (take i tables)) table.records)
    ∙ ap (filter p) (sym (held_next tables i table lt is))

-- ---- a write
-- what lies below a number lies below it in order too
pub below_sorted : (seq : ℕ) (us : List Record) → ((u : Record) → Contains us u → u.seq < seq) → (u : Record) → Contains (sorted us) u → u.seq < seq
below_sorted seq us below u k = below u (in_to us u (in_sorted us u (in_from (sorted us) u k)))

-- ---- the parts of merged runs and of tables
-- the parts of the first runs, and that of the next, behind other records
pub parts_beside : (p : Record → Bool) (first : List Record) (runs clips more : List (List Record)) (i : ℕ) (run part : List Record) → i < length runs → run ≡ get_or runs i run → part ≡ filter p run
    → flat clips ≡ first ++ filter p (flat (take i runs)) → flat more ≡ flat clips ++ part → flat more ≡ first ++ filter p (flat (take (i + 1) runs))
parts_beside p first runs clips more i run part lt is of before after =
    after ∙ (λ j. before j ++ of j)
    ∙ append_assoc first (filter p (flat (take i runs))) (filter p run)
    ∙ ap (λ l. first ++ l) (sym (filter_append p (flat (take i runs)) run) ∙ ap (filter p) (sym (flat_next runs i run lt is)))

-- of both kinds of merged runs, one behind the other
pub merged_runs_read : (p : Record → Bool) (b : MergedRuns) (none some clips : List (List Record)) → flat none ≡ [] → flat some ≡ flat none ++ filter p (flat b.shared) → flat clips ≡ flat some ++ filter p (flat b.merged) → flat clips ≡ filter p (held_by b)
merged_runs_read p b none some clips empty first second =
    second ∙ ap (λ l. l ++ filter p (flat b.merged)) (first ∙ ap (λ l. l ++ filter p (flat b.shared)) empty) ∙ sym (filter_append p (flat b.shared) (flat b.merged))

-- of merged runs and of tables
pub parts_read : (p : Record → Bool) (b : MergedRuns) (ts : List Sorted) (runs : List (List Record)) (clips : List Sorted) → flat runs ≡ filter p (held_by b) → held_in clips ≡ filter p (held_in ts) → flat runs ++ held_in clips ≡ filter p (held_by b ++ held_in ts)
parts_read p b ts runs clips of_merged_runs of_tables = (λ i. of_merged_runs i ++ of_tables i) ∙ sym (filter_append p (held_by b) (held_in ts))

-- of merged runs that are cut, each kind by itself
pub merged_runs_parts : (p : Record → Bool) (b : MergedRuns) (none shared none_yet merged : List (List Record)) → flat none ≡ [] → flat shared ≡ flat none ++ filter p (flat b.shared) → flat none_yet ≡ [] → flat merged ≡ flat none_yet ++ filter p (flat b.merged)
    → flat shared ++ flat merged ≡ filter p (held_by b)
merged_runs_parts p b none shared none_yet merged empty first empty_yet second =
    (λ i. (first ∙ ap (λ l. l ++ filter p (flat b.shared)) empty) i ++ (second ∙ ap (λ l. l ++ filter p (flat b.merged)) empty_yet) i)
    ∙ sym (filter_append p (flat b.shared) (flat b.merged))
