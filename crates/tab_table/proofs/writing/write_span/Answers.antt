-- Of the step as many bytes as are asked for join those before it.
use Rattle.std.proofs.Common.{◌≤◌, length, arith}
use Rattle.tab_table.proofs.Spliced.{of_step}
use Rattle.tab_table.proofs.writing.write_span.Goals as goal

pub returns-then-is_short-clause-bytes : goal.returns-then-is_short-clause-bytes
returns-then-is_short-clause-bytes c =
    let low : c.args.place ≤ length c.args.out.now = omega (arith, c.requires.room) in
    of_step c.args.out.now c.write_all.new.out c.args.bytes.now c.step_at-step.result c.args.place c.args.from c.args.len 16 low (c.requires.few c.if-is_short.true) (c.requires.ahead c.if-is_short.true) c.step_at-step.ensures c.write_all.ensures.bytes
