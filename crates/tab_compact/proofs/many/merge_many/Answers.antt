use Rattle.tab_compact.proofs.Together.{same_values}
use Rattle.tab_compact.proofs.many.merge_many.Goals as goal

pub returns-clause-ok : goal.returns-clause-ok
returns-clause-ok g c = same_values c.merge_all.result c.args.jobs.items c.merge_all.ensures.ok
