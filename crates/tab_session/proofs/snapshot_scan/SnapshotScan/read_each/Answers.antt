-- While the ranges are read there are no verdicts, and none is wrong.
use Rattle.std.proofs.Common.{◌∙◌, List, ap, map, sym, subst}
use Rattle.tab_cells.specs.SessionState.{cells_within}
use Rattle.tab_iter.specs.Verdicts.{IsSound}
use Rattle.tab_key.specs.Records.{Record, cell_of}
use Rattle.tab_session.proofs.snapshot_scan.SnapshotScan.read_each.Goals as goal

pub invariant_of-self-inside : goal.invariant_of-self-inside
invariant_of-self-inside c = (c.take-verdicts.ensures.left c.self.inside.asked.auths, tt)

pub returns-clause-cells : goal.returns-clause-cells
returns-clause-cells c = c.in_ok-answers.ensures ∙ ap (λ (shown : List Record). map (λ rows. cells_within rows (map cell_of shown)) c.args.ranges.now) (c.unread-source.ensures ∙ c.self.view_is)
