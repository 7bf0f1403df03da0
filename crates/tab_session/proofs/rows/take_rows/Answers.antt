use Rattle.std.proofs.Common.{◌≡◌, [], rules, sym, ◌∙◌}
use Rattle.tab_iter.proofs.ListLaws.{rising_end}
use Rattle.tab_session.proofs.InRange.{below, none_left, none_below, all_in_range}
use Rattle.tab_session.proofs.rows.take_rows.Goals as goal
use Rattle.tab_session.proofs.rows.take_rows.Goals.{in-Some+then-not-is_below, in_default}

pub returns-clause-cells : goal.returns-clause-cells
returns-clause-cells g c =
    let whole = g.S.Source.whole c.args.source.now in
    let rest = g.S.Source.rest c.loop-record.source in
    let none : below c.args.rows.now.high rest ≡ [] = elim c.match-top.branch [
      | in-Some+then-not-is_below w ↦ none_below c.args.rows.now.high rest w.in-Some.record (rising_end rest (g.S.Source.whole c.loop-record.source) (g.met.S.Source.rest_is_suffix c.loop-record.source) (g.met.S.Source.whole_rises c.loop-record.source)) (sym w.in-Some.is ∙ c.top.ensures) (search rules)
      | in_default w ↦ none_left c.args.rows.now.high rest (sym w.in_default.is ∙ c.top.ensures)
    ] in
    all_in_range c.args.rows.now whole (g.S.Source.rest c.args.source.now) c.loop-record.cells (below c.args.rows.now.high rest) (g.met.S.Source.whole_rises c.args.source.now) (g.met.S.Source.has_i64_timestamps c.args.source.now) c.requires c.loop-record.invariant.cells none
