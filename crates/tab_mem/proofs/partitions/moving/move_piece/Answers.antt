use Rattle.std.proofs.Common.{◌∙◌, ap, take, drop, ◌+◌, ◌-◌}
use Rattle.tab_mem.proofs.Pasted.{within_moved, within_behind}
use Rattle.tab_mem.proofs.partitions.moving.move_piece.Goals as goal

pub returns-then-size-gap-clause-moved : goal.returns-then-size-gap-clause-moved
returns-then-size-gap-clause-moved c =
    ap (take (c.args.to + (c.args.end - c.args.place))) c.copy_within.ensures.after ∙ within_moved c.args.body.now c.args.place c.args.end c.args.to c.requires.order c.requires.inside c.requires.earlier

pub returns-then-size-gap-clause-behind : goal.returns-then-size-gap-clause-behind
returns-then-size-gap-clause-behind c = ap (drop c.args.end) c.copy_within.ensures.after ∙ within_behind c.args.body.now c.args.place c.args.end c.args.to c.requires.order c.requires.inside c.requires.earlier
