use Rattle.tab_core.specs.Holding.{held}
use Rattle.tab_core.proofs.PolicyActs.{saved}
use Rattle.tab_core.proofs.store.Store.save.Goals as goal

pub returns : goal.returns
returns c = saved (held c.args.self.now) c.args.now c.args.user.now c.requires
