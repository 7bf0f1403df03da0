use Rattle.std.proofs.Common.{◌≡◌, ◌+◌, ◌∙◌, None, ap, cond, is_some, length, subst}
use Rattle.tab_policy.specs.Entries.{at_name}
use Rattle.tab_policy.proofs.NameLemmas.{same_name}
use Rattle.tab_store.proofs.Named.{Entries, table_renewed, count_taken, one_fewer, rises}
use Rattle.tab_store.proofs.tables.Tables.remove.Goals as goal

pub returns-clause-tables : goal.returns-clause-tables
returns-clause-tables c =
    let old : Entries = c.self.inside.by_name.entries in
    rw (← c.self.view_is) (table_renewed old c.remove.new.self.entries c.args.name.now None (λ q. c.remove.ensures.updates.0 q ∙ ap (λ b. cond b None (at_name q old)) (same_name c.args.name.now q)))

pub returns-clause-count : goal.returns-clause-count
returns-clause-count c =
    let old : Entries = c.self.inside.by_name.entries in
    rw (← c.self.view_is) (count_taken old c.remove.new.self.entries c.args.name.now
    (one_fewer (is_some (at_name c.args.name.now old)) _ _ (subst (λ o. length c.remove.new.self.entries + cond (is_some o) 1 0 ≡ length old) c.remove.ensures.value c.remove.ensures.len)))

pub returns-clause-names : goal.returns-clause-names
returns-clause-names c = rises c.remove.new.self.entries c.remove.ensures.ordered
