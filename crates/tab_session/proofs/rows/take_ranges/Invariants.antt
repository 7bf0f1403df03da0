use Rattle.std.proofs.Common.{◌≡◌, ◌<◌, ℕ, [], map, length, get_or}
use Rattle.tab_key.specs.Records.{cell_of}
use Rattle.tab_key.specs.declared.range.Bounds.{Bounds}
use Rattle.tab_cells.specs.SessionState.{cells_within}
use Rattle.tab_session.proofs.Placing.{IsAnswered}
use Rattle.tab_session.proofs.rows.take_ranges.Given as goal

-- the ranges so far are answered, each at its place, and the source is over the same records
abbrev pub invariant-loop-placed : goal.invariant-loop-placed
invariant-loop-placed g l = record {
  answered : (k : ℕ) (d : ℕ × Bounds) → k < l.placed-index → IsAnswered (λ (rows : Bounds). cells_within rows (map cell_of (g.S.Source.whole l.initial.source))) [] l.answers.items (get_or l.placed-items k d);
  long : length l.answers.items ≡ length l.ranges;
  whole : g.S.Source.whole l.source ≡ g.S.Source.whole l.initial.source;
}
