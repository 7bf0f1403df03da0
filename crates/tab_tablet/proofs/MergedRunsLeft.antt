-- The merged runs of the runs that are left where inputs are taken out.
use Rattle.std.proofs.Common.{◌≡◌, List, [], ◌==◌, true, sym, ◌∙◌, ap, subst, length, append-nil}
use Rattle.std.specs.Prelude.{Option, Some, None, option_map, option_and_then}
use Rattle.std.specs.List.Sorted.{IsPermutation}
use Rattle.std.proofs.lemmas.List.Sorted.{IsPermutation-refl}
use Rattle.std.proofs.lemmas.List.{nil_from_length}
use Rattle.std.proofs.lemmas.Bool.Decides.{Decides-eqb}
use Rattle.tab_key.specs.Records.{Record}
use Rattle.tab_iter.specs.Bags.{flat}
use Rattle.tab_version.specs.Sources.{Sorted, Sources, without_runs, without_tables, left_by}
use Rattle.tab_tablet.specs.MergedRunLists.{MergedRuns}
use Rattle.tab_tablet.specs.MergedRuns.{AreMergedRuns}
use Rattle.tab_tablet.proofs.Parted.{some_is}

-- where there are no runs among the inputs, all runs are left
pub runs_stay : (inputs s left : Sources) → inputs.runs ≡ [] → left_by inputs s ≡ Some left → s.runs ≡ left.runs
runs_stay inputs s left none e = go (without_runs inputs.runs s.runs) (ap (λ r. without_runs r s.runs) none) e
  where
    rest : (runs : List (List Record)) (o : Option (List Sorted)) → option_map (λ tables. record { runs = runs; tables = tables }) o ≡ Some left → runs ≡ left.runs
    rest runs None q = absurd (cc)
    rest runs (Some tables) q = ap (λ (x : Sources). x.runs) (some_is (record { runs = runs; tables = tables }) left q)

    go : (o : Option (List (List Record))) → o ≡ Some s.runs → option_and_then (λ runs. option_map (λ tables. record { runs = runs; tables = tables }) (without_tables inputs.tables s.tables)) o ≡ Some left → s.runs ≡ left.runs
    go None p q = absurd (cc)
    go (Some runs) p q = sym (some_is runs s.runs p) ∙ rest runs (without_tables inputs.tables s.tables) q

pub merged_runs_stay : (inputs s left : Sources) (merged_runs : MergedRuns) → (length inputs.runs == 0) ≡ true → left_by inputs s ≡ Some left → AreMergedRuns s.runs merged_runs → AreMergedRuns left.runs merged_runs
merged_runs_stay inputs s left merged_runs none e q = subst (λ (runs : List (List Record)). AreMergedRuns runs merged_runs) (runs_stay inputs s left (nil_from_length inputs.runs ((Decides-eqb (length inputs.runs) 0).0 none)) e) q

-- runs are their own merged runs
pub own_merged_runs : (runs : List (List Record)) → AreMergedRuns runs (record { shared = runs; merged = [] })
own_merged_runs runs = subst (IsPermutation (flat runs)) (sym (append-nil (flat runs))) (IsPermutation-refl (flat runs))
