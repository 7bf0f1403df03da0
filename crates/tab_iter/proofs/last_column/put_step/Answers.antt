-- The bytes put are the first ones of the step.
use Rattle.std.proofs.Common.{◌+◌, take, drop, set, ap, ◌∙◌}
use Rattle.tab_iter.proofs.LastColumn.{step_put}
use Rattle.tab_iter.proofs.last_column.put_step.Goals as goal

pub returns : goal.returns
returns c =
    ap (λ xs. take (c.args.count + 1) (set xs c.args.count 0)) c.write_step.ensures
    ∙ step_put c.args.bytes.now (drop 64 c.args.body.now) c.args.count c.requires.count c.requires.bytes
