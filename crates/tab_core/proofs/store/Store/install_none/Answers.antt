use Rattle.tab_core.specs.Holding.{held}
use Rattle.tab_core.proofs.Beginning.{none_installed}
use Rattle.tab_core.proofs.store.Store.install_none.Goals as goal

pub returns : goal.returns
returns c = none_installed (held c.args.self.now) c.args.now c.args.user.now c.args.table.now c.args.given c.requires
