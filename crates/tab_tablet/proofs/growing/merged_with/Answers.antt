use Rattle.std.proofs.Common.{◌≡◌, ◌∙◌, ◌++◌, ◌∷◌, [], ap, sym, subst, rules}
use Rattle.tab_key.specs.Sorted.{sorted, IsDistinct}
use Rattle.tab_tablet.proofs.MergedRunLaws.{inputs_held}
use Rattle.tab_tablet.proofs.growing.merged_with.Goals as goal

pub merged-requires : goal.merged-requires
merged-requires c =
    let more : c.push.new.self.items ≡ c.args.merged_runs.now ++ c.args.run.now ∷ [] = search rules in
    subst IsDistinct (sym (inputs_held c.args.merged_runs.now c.push.new.self.items c.args.run.now c.new.result.items c.of-inputs.result more c.new.ensures.items c.of-inputs.ensures)) c.requires

pub returns : goal.returns
returns c =
    let more : c.push.new.self.items ≡ c.args.merged_runs.now ++ c.args.run.now ∷ [] = search rules in
    c.in_ok-one.ensures ∙ ap sorted (inputs_held c.args.merged_runs.now c.push.new.self.items c.args.run.now c.new.result.items c.of-inputs.result more c.new.ensures.items c.of-inputs.ensures)
