use Rattle.std.proofs.Common.{◌≡◌, ◌∙◌, ◌≤◌, ◌++◌, ◌∷◌, List, [], length, take, drop, ap, sym, subst}
use Rattle.std.specs.List.Sorted.{IsPermutation}
use Rattle.tab_key.specs.Records.{Record}
use Rattle.tab_key.specs.Sorted.{sorted, IsDistinct}
use Rattle.tab_iter.specs.Bags.{flat}
use Rattle.tab_tablet.specs.MergedRunLists.{MergedRuns, held_by}
use Rattle.tab_tablet.proofs.MergedRunLaws.{distinct_merged, slice_rest, with_merged}
use Rattle.tab_tablet.proofs.growing.merged_behind.Goals as goal

pub merged_with-requires : goal.merged_with-requires
merged_with-requires c =
    let le : c.args.kept ≤ length c.merged.result.now = subst (λ (bs : List (List Record)). c.args.kept ≤ length bs) (sym c.merged.ensures) c.requires.inside in
    let rest = slice_rest c.args.kept c.merged.result.now le ∙ ap (drop c.args.kept) c.merged.ensures in
    subst (λ (bs : List (List Record)). IsDistinct (flat bs ++ c.args.run.now)) (sym rest) (distinct_merged c.args.run.now c.args.merged_runs.now c.args.kept c.requires.distinct)

pub returns : goal.returns
returns c =
    let b : MergedRuns = c.args.merged_runs.now in
    let le : c.args.kept ≤ length c.merged.result.now = subst (λ (bs : List (List Record)). c.args.kept ≤ length bs) (sym c.merged.ensures) c.requires.inside in
    let rest = slice_rest c.args.kept c.merged.result.now le ∙ ap (drop c.args.kept) c.merged.ensures in
    let is : c.put_merged.new.self ≡ record b { merged = take c.args.kept b.merged ++ c.in_ok-one.one ∷ [] } = c.in_ok-put_merged.ensures ∙ ap (λ (x : MergedRuns). record x { merged = take c.args.kept x.merged ++ c.in_ok-one.one ∷ [] }) c.in_ok-with.ensures in
    subst (λ (x : MergedRuns). IsPermutation (c.args.run.now ++ held_by b) (held_by x)) (sym is)
    (with_merged c.args.run.now b c.args.kept c.in_ok-one.one (c.in_ok-one.ensures ∙ ap (λ (bs : List (List Record)). sorted (flat bs ++ c.args.run.now)) rest))
