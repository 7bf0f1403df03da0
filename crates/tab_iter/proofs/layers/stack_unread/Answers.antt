-- What a stack shows of which nothing is read.
use Rattle.std.proofs.Common.{sym}
use Rattle.tab_cells.proofs.Rising.{rising_distinct, sorted_rising}
use Rattle.tab_iter.proofs.StackLaws.{stack_lists}
use Rattle.tab_iter.proofs.layers.stack_unread.Goals as goal

pub returns-clause-shown : goal.returns-clause-shown
returns-clause-shown g c =
    let whole = g.S.Source.whole c.args.source in
    let rises = g.met.S.Source.whole_rises c.args.source in
    stack_lists whole c.args.versions c.args.columns.now c.args.auths.now _ _ _
    (sym (sorted_rising whole rises)) c.stack_rule.ensures c.unpositioned.ensures.whole (rising_distinct whole rises)
