use Rattle.std.proofs.Common.{sym, ap, ◌∙◌, Some, arith}
use Rattle.tab_label.specs.Machine.{run}
use Rattle.tab_label.specs.ParserViews.{state_of}
use Rattle.tab_label.proofs.Runs.{run_more, stops_at, stops_at_end, reads_at_end}
use Rattle.tab_label.proofs.parser.parse.Goals as goal

pub loop-i-init : goal.loop-i-init
unfolding run
loop-i-init c = ap Some (sym c.new-state.ensures)

pub returns-in-Err-NoLabel-clause-malformed : goal.returns-in-Err-NoLabel-clause-malformed
returns-in-Err-NoLabel-clause-malformed c =
    let dead = rw c.in-Err-NoLabel.field-0-is at c.in-Err-NoLabel.ensures in
    stops_at c.args.text.now c.loop-i.i (state_of c.loop-i.state) (λ k. omega (arith, c.type_inv.text k)) c.loop-i-test.true c.loop-i.invariant dead

pub loop-i-preserved : goal.loop-i-preserved
loop-i-preserved c = run_more c.args.text.now c.loop-i.i (state_of c.loop-i.state) c.loop-i-test.true c.loop-i.invariant ∙ c.in-Ok.ensures

pub returns-in-Ok-finish-clause-label : goal.returns-in-Ok-finish-clause-label
returns-in-Ok-finish-clause-label c = reads_at_end c.args.text.now c.loop-i.i (state_of c.loop-i.state) _ (λ k. omega (arith, c.type_inv.text k)) c.loop-i-test.false c.loop-i.invariant c.in-Ok-finish.ensures

pub returns-in-Err-NoLabel-finish-clause-malformed : goal.returns-in-Err-NoLabel-finish-clause-malformed
returns-in-Err-NoLabel-finish-clause-malformed c =
    let dead = rw c.in-Err-NoLabel-finish.field-0-is at c.in-Err-NoLabel-finish.ensures in
    stops_at_end c.args.text.now c.loop-i.i (state_of c.loop-i.state) (λ k. omega (arith, c.type_inv.text k)) c.loop-i-test.false c.loop-i.invariant dead
