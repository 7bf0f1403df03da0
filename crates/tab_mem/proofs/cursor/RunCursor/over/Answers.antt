use Rattle.std.proofs.Common.{sym, subst, arith, length}
use Rattle.std.specs.Prelude.{◌≤◌}
use Rattle.tab_mem.proofs.Parts.{part_rises, part_timestamps}
use Rattle.tab_mem.proofs.cursor.RunCursor.over.Goals as goal

pub invariant_of-result : goal.invariant_of-result
invariant_of-result c = record {
  ordered = omega arith;
  upto = c.requires.ends;
  starts = c.requires.ends;
  inside = subst (λ rs. c.args.end ≤ length rs) (sym c.run.view_is) c.requires.inside;
  run_rises = c.run.invariant.rising;
  rising = part_rises c.args.from c.args.end c.run.inside.records c.run.invariant.rising;
  timestamps = part_timestamps c.args.from c.args.end c.run.inside.records c.run.invariant.timestamps;
}
