use Rattle.std.proofs.Common.{ap}
use Rattle.tab_history.specs.declared.reply.Reply.TheVariants.{Counted}
use Rattle.tab_core.specs.Holding.{held}
use Rattle.tab_core.proofs.Compacting.{counted}
use Rattle.tab_core.proofs.store.Store.status.Goals as goal

pub returns : goal.returns
returns c = counted (held c.args.self.now) c.args.now c.args.user.now c.args.table.now _ c.requires (ap Counted c.counts_in.ensures)
