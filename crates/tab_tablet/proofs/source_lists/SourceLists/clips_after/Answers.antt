use Rattle.std.proofs.Common.{◌∙◌, ◌++◌, ◌∷◌, [], ap}
use Rattle.tab_key.specs.Ranges.{is_in_range}
use Rattle.tab_version.specs.Sources.{Sources}
use Rattle.tab_tablet.proofs.MergedRunLaws.{read_ok}
use Rattle.tab_tablet.proofs.source_lists.SourceLists.clips_after.Goals as goal

pub returns : goal.returns
returns c =
    read_ok (λ u. is_in_range c.args.bounds.now u.key.row) (record (c.args.self.now) { runs = c.args.self.now.runs ++ c.args.freeze.now.run ∷ [] }) c.args.freeze.now.merged_runs c.tables.result.now c.clips_in.result c.requires.merged_runs c.requires.distinct
    (c.tables.ensures ∙ ap (λ (s : Sources). s.tables) c.self.view_is) c.clips_in.ensures
