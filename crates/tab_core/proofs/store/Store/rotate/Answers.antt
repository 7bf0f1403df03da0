use Rattle.tab_core.specs.Holding.{held}
use Rattle.tab_core.proofs.PolicyActs.{rotated}
use Rattle.tab_core.proofs.store.Store.rotate.Goals as goal

pub returns : goal.returns
returns c = rotated (held c.args.self.now) c.args.now c.args.user.now c.requires
