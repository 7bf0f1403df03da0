use Rattle.tab_core.specs.Holding.{held}
use Rattle.tab_core.proofs.PolicyActs.{loaded}
use Rattle.tab_core.proofs.store.Store.load.Goals as goal

pub returns : goal.returns
returns c = loaded (held c.args.self.now) c.args.now c.args.user.now c.requires
