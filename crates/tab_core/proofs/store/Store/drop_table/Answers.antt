use Rattle.tab_core.specs.Holding.{held}
use Rattle.tab_core.proofs.TableActs.{table_dropped}
use Rattle.tab_core.proofs.store.Store.drop_table.Goals as goal

pub returns : goal.returns
returns c = table_dropped (held c.args.self.now) c.drop_table.new.self c.remove.new.self c.args.now c.args.user.now c.args.table.now c.requires.core c.requires.admitted c.remove.ensures.names c.remove.ensures.count c.remove.ensures.tables c.drop_table.ensures
