use Rattle.tab_store.proofs.Named.{rises}
use Rattle.tab_store.proofs.tables.Tables.iter.Goals as goal

pub returns-clause-names : goal.returns-clause-names
returns-clause-names c = rw (← c.self.view_is) (rises c.self.inside.by_name.entries c.iter.ensures.ordered)
