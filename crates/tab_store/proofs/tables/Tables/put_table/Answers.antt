use Rattle.std.proofs.Common.{◌≡◌, ◌+◌, ◌∙◌, ℕ, List, Some, ap, bytes_eq, cond, is_some, length, subst}
use Rattle.tab_policy.specs.Entries.{at_name}
use Rattle.tab_policy.proofs.NameLemmas.{same_name}
use Rattle.tab_store.proofs.Named.{Entries, table_renewed, count_put, one_more, rises}
use Rattle.tab_store.proofs.tables.Tables.put_table.Goals as goal

pub returns-in_err-key-clause-names : goal.returns-in_err-key-clause-names
returns-in_err-key-clause-names c = rw (← c.self.view_is) (rises c.self.inside.by_name.entries c.self.invariant)

pub returns-in_err-insert-clause-names : goal.returns-in_err-insert-clause-names
returns-in_err-insert-clause-names c = rises c.insert.new.self.entries c.insert.ensures.ordered

pub returns-clause-tables : goal.returns-clause-tables
returns-clause-tables c =
    let old : Entries = c.self.inside.by_name.entries in
    let new : Entries = c.insert.new.self.entries in
    rw (← c.self.view_is) (table_renewed old new c.args.name (Some c.args.table)
    (subst (λ (k : List ℕ). (q : List ℕ) → at_name q new ≡ cond (bytes_eq k q) (Some c.args.table) (at_name q old)) c.in_ok-key.ensures
    (λ q. c.in_ok-insert.ensures.updates.0 q ∙ ap (λ b. cond b (Some c.args.table) (at_name q old)) (same_name c.in_ok-key.key q))))

pub returns-clause-count : goal.returns-clause-count
returns-clause-count c =
    let old : Entries = c.self.inside.by_name.entries in
    let new : Entries = c.insert.new.self.entries in
    rw (← c.self.view_is) (count_put old new c.args.name
    (subst (λ (k : List ℕ). length new ≡ cond (is_some (at_name k old)) (length old) (length old + 1)) c.in_ok-key.ensures
    (one_more (is_some (at_name c.in_ok-key.key old)) (length new) (length old) (subst (λ o. length new ≡ length old + cond (is_some o) 0 1) c.in_ok-insert.ensures.old c.in_ok-insert.ensures.len))))

pub returns-clause-names : goal.returns-clause-names
returns-clause-names c = rises c.insert.new.self.entries c.insert.ensures.ordered
