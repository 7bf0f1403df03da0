use Rattle.std.proofs.Common.{◌≡◌, sym, subst}
use Rattle.std.specs.Prelude.{filter, IfOk}
use Rattle.tab_key.specs.Ranges.{is_in_range}
use Rattle.tab_key.specs.Sorted.{sorted, IsDistinct}
use Rattle.tab_version.specs.Sources.{Sources, records_of}
use Rattle.tab_tablet.proofs.MergedRunLaws.{read_ok}
use Rattle.tab_tablet.proofs.source_lists.SourceLists.clips.Goals as goal

pub returns : goal.returns
returns c =
    subst (λ (s : Sources). IfOk c.clips_in.result (λ x. sorted (records_of x) ≡ sorted (filter (λ u. is_in_range c.args.bounds.now u.key.row) (records_of s)))) c.self.view_is
    (read_ok (λ u. is_in_range c.args.bounds.now u.key.row) c.self.inside.sources c.self.inside.merged_runs c.tables.result.now c.clips_in.result c.self.invariant (subst (λ (s : Sources). IsDistinct (records_of s)) (sym c.self.view_is) c.requires) c.tables.ensures c.clips_in.ensures)
