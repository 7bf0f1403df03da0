use Rattle.std.specs.Prelude.{Some}
use Rattle.tab_core.specs.DueType.{Due}
use Rattle.tab_work.specs.Dues.{aimed}
use Rattle.tab_work.proofs.Aims.{one_more}
use Rattle.tab_work.proofs.dues.with_targets.Goals as goal

pub loop-due-preserved : goal.loop-due-preserved
loop-due-preserved c =
    one_more (λ (due : Due). aimed c.args.core.now.tables (Some due)) c.args.list.now c.loop-due.due-index _ c.in_ok-with_target.field-0 c.loop-due.found.items _ c.loop-due-test.true c.in_ok-with_target.ensures c.loop-due.invariant
    c.in_ok-add.ensures
