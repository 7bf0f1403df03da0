use Rattle.std.proofs.Common.{◌∙◌, ◌++◌, ◌≡◌, List, Bool, ap}
use Rattle.std.specs.Prelude.{filter}
use Rattle.tab_key.specs.Ranges.{is_in_range}
use Rattle.tab_key.specs.Records.{Record}
use Rattle.tab_iter.specs.Bags.{flat}
use Rattle.tab_version.specs.Sources.{records_of}
use Rattle.tab_tablet.specs.MergedRunLists.{held_by}
use Rattle.tab_tablet.proofs.Clipped.{merged_runs_read, parts_read}
use Rattle.tab_tablet.proofs.clipping.clips_in.Goals as goal

pub returns : goal.returns
returns c =
    let p : Record → Bool = λ u. is_in_range c.args.bounds.now u.key.row in
    let of_merged_runs : flat c.add_parts-2.new.clips.items ≡ filter p (held_by c.args.merged_runs.now) =
    merged_runs_read p c.args.merged_runs.now c.new-runs.result.items c.add_parts.new.clips.items c.add_parts-2.new.clips.items (ap flat c.new-runs.ensures.items)
    (c.in_ok-add_parts.ensures ∙ ap (λ (r : List (List Record)). flat c.new-runs.result.items ++ filter p (flat r)) c.shared.ensures)
    (c.in_ok-add_parts-2.ensures ∙ ap (λ (r : List (List Record)). flat c.add_parts.new.clips.items ++ filter p (flat r)) c.merged.ensures) in
    ap records_of c.of.ensures ∙ parts_read p c.args.merged_runs.now c.args.tables.now c.add_parts-2.new.clips.items c.in_ok-tables.tables.items of_merged_runs c.in_ok-tables.ensures
