use Rattle.tab_compact.proofs.Plans.{plan_is_greatest}
use Rattle.tab_compact.proofs.laws.plan_is_greatest.Goals as goal

pub returns : goal.returns
returns c = plan_is_greatest
