use Rattle.std.proofs.Common.{refl, ap}
use Rattle.tab_history.specs.declared.event.Act.TheVariants as act
use Rattle.tab_history.specs.declared.reply.Reply.TheVariants.{Rows}
use Rattle.tab_core.specs.Holding.{held}
use Rattle.tab_core.proofs.Acting.{lacked}
use Rattle.tab_core.proofs.Splitting.{ends_told}
use Rattle.tab_core.proofs.store.Store.splits.Goals as goal

pub returns-in-Ok : goal.returns-in-Ok
returns-in-Ok c = ends_told (held c.args.self.now) c.args.now c.args.user.now c.args.table.now _ c.requires (ap Rows c.in-Ok.ensures)

pub returns-in-Err : goal.returns-in-Err
returns-in-Err c = lacked _ (held c.args.self.now) c.args.now c.args.user.now (act.Splits c.args.table.now) refl c.requires
