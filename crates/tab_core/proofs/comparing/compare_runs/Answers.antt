use Rattle.tab_core.proofs.Picked.{told_compares}
use Rattle.tab_core.proofs.comparing.compare_runs.Goals as goal

pub returns : goal.returns
returns c = told_compares c.args.user.now c.args.first.now c.args.second.now c.in_ok-first.first.items c.in_ok-second.second.items c.in_ok-first.ensures c.in_ok-second.ensures
