use Rattle.std.proofs.Common.{◌≡◌, ◌++◌, ◌∙◌, List, ap, map, rules}
use Rattle.tab_cells.specs.SessionState.{cells_within}
use Rattle.tab_key.specs.Records.{Record, Cell, cell_of}
use Rattle.tab_key.specs.declared.range.Bounds.{Bounds}
use Rattle.tab_session.proofs.Shares.{both_answered}
use Rattle.tab_session.proofs.snapshot_scan.SnapshotScan.read_at_once.Goals as goal

pub returns-clause-cells : goal.returns-clause-cells
returns-clause-cells g c =
    let answer : List Record → Bounds → List Cell = λ shown rows. cells_within rows (map cell_of shown) in
    let joined : c.append.new.self.items ≡ c.in_ok-answers.answers.items ++ c.in_ok-more.more.items = search rules in
    let other = c.in_ok-more.ensures.cells ∙ ap (λ shown. map (answer shown) c.split_at.result.1.now) c.read_each.ensures.same in
    c.from_vec.ensures ∙ both_answered (answer c.args.self.now) c.args.ranges.now c.split_at.result.0.now c.split_at.result.1.now _ _ _ c.split_at.ensures.by_index.0 c.in_ok-answers.ensures.cells other joined
