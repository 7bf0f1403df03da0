use Rattle.tab_recovery.proofs.Going.{redoes}
use Rattle.tab_recovery.proofs.replaying.redo.Goals as goal

pub returns : goal.returns
returns c = redoes c.args.core.now c.step-answer.new.self c.args.event c.step-answer.result c.judge.result c.step-answer.ensures.steps c.judge.ensures
