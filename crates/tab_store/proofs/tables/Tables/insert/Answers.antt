use Rattle.tab_store.proofs.Named.{rises}
use Rattle.tab_store.proofs.tables.Tables.insert.Goals as goal

pub returns-in_err-table-clause-names : goal.returns-in_err-table-clause-names
returns-in_err-table-clause-names c = rw (← c.self.view_is) (rises c.self.inside.by_name.entries c.self.invariant)
