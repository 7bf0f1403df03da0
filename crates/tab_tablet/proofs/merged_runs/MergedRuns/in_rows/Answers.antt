use Rattle.std.proofs.Common.{◌++◌, ◌∙◌, List, Bool, ap}
use Rattle.std.specs.Prelude.{filter}
use Rattle.tab_key.specs.Ranges.{is_in_range}
use Rattle.tab_key.specs.Records.{Record}
use Rattle.tab_iter.specs.Bags.{flat}
use Rattle.tab_tablet.specs.MergedRunLists.{MergedRuns, held_by}
use Rattle.tab_tablet.proofs.Clipped.{merged_runs_parts}
use Rattle.tab_tablet.proofs.merged_runs.MergedRuns.in_rows.Goals as goal

pub returns : goal.returns
returns c =
    let p : Record → Bool = λ u. is_in_range c.args.bounds.now u.key.row in
    merged_runs_parts p (record { shared = c.self.inside.shared.items; merged = c.self.inside.merged.items }) c.new-shared.result.items c.add_parts.new.clips.items c.new-merged.result.items c.add_parts-2.new.clips.items
    (ap flat c.new-shared.ensures.items) (c.in_ok-add_parts.ensures ∙ ap (λ (r : List (List Record)). flat c.new-shared.result.items ++ filter p (flat r)) c.deref.ensures.value)
    (ap flat c.new-merged.ensures.items) (c.in_ok-add_parts-2.ensures ∙ ap (λ (r : List (List Record)). flat c.new-merged.result.items ++ filter p (flat r)) c.deref-2.ensures.value)
    ∙ ap (λ (b : MergedRuns). filter p (held_by b)) c.self.view_is
