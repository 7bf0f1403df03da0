use Rattle.std.proofs.Common.{◌∙◌, sym}
use Rattle.tab_store.proofs.Named.{table_found}
use Rattle.tab_store.proofs.tables.Tables.get.Goals as goal

pub returns : goal.returns
returns c = rw (← c.self.view_is) (c.get.ensures.value ∙ sym (table_found c.self.inside.by_name.entries c.args.name.now))
