use Rattle.std.proofs.Common.{◌≡◌, ◌∙◌, List, OnSome, ap, map, refl, subst, sym, rules}
use Rattle.std.specs.Option.{option_copied_mut}
use Rattle.tab_policy.specs.Entries.{at_name}
use Rattle.tab_store.specs.Stores.{TableContents}
use Rattle.tab_store.specs.Tables.{TableState, named_table, table_at}
use Rattle.tab_store.specs.Lending.{Leaves}
use Rattle.tab_store.proofs.Lent.{leaves}
use Rattle.tab_store.proofs.Named.{Entries, table_found}
use Rattle.tab_store.proofs.tables.Tables.get_mut.Goals as goal

pub returns : goal.returns
returns c =
    let old : Entries = c.self.inside.by_name.entries in
    let name = c.args.name.now in
    let value : option_copied_mut c.get_mut.result ≡ at_name name old = search rules in
    let left = λ (table : TableState).
    let through = c.get_mut.follows.holds table in
    subst (λ (ts : List TableContents). OnSome c.get_mut.result (Leaves name ts table (map named_table (c.get_mut.follows.lender table).entries))) c.self.view_is
    (leaves name old (c.get_mut.follows.lender table).entries table c.get_mut.result value through.0 through.2 (λ some. (through.3 some).0) through.4) in
    ((refl, left, search rules), record { lends = tt; value = value ∙ sym (table_found old name) ∙ ap (λ (ts : List TableContents). table_at ts name) c.self.view_is })
