-- The tests of all rules together are the definition of what is shown.
use Rattle.std.proofs.Common.{sym}
use Rattle.tab_cells.proofs.Rising.{rising_distinct, sorted_rising}
use Rattle.tab_iter.specs.Stack.{query_of}
use Rattle.tab_iter.proofs.StackLaws.{stack_lists, stack_cells}
use Rattle.tab_iter.proofs.layers.stack_of.Goals as goal

pub returns-clause-shown : goal.returns-clause-shown
returns-clause-shown g c =
    let whole = g.S.Source.whole c.args.source in
    let rises = g.met.S.Source.whole_rises c.args.source in
    stack_lists whole c.args.versions c.args.columns.now c.args.auths.now _ _ _
    (sym (sorted_rising whole rises)) c.stack_rule-rule.ensures c.in_ok-shown.ensures.whole (rising_distinct whole rises)

pub returns-clause-cells : goal.returns-clause-cells
returns-clause-cells g c = stack_cells (g.S.Source.whole c.args.source) _ c.args.versions (query_of c.args.columns.now c.args.auths.now) (returns-clause-shown g c)
