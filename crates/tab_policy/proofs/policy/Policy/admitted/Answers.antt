use Rattle.std.proofs.Common.{◌≡◌, ◌∙◌, ◌||◌, Some, None, sym, ap, rules, bytes_eq}
use Rattle.std.specs.Prelude.{is_some, is_none}
use Rattle.tab_policy.specs.declared.permission.TablePermission.{TablePermission}
use Rattle.tab_policy.specs.Roots.{root}
use Rattle.tab_policy.specs.Sets.{table_contains}
use Rattle.tab_policy.specs.Entries.{at_name}
use Rattle.tab_policy.specs.Actions.{asked_for, table_named}
use Rattle.tab_policy.specs.State.{user_exists, auths_of, system_granted, table_granted, table_exists, account_auths, account_system, account_life, table_gives}
use Rattle.tab_policy.proofs.Decided.{decided_unknown, decided_on_none, decided_on_server, decided_on_table, stops, stops_on_server, found_there}
use Rattle.tab_policy.proofs.policy.Policy.admitted.Goals as goal

pub returns-in_err-account-clause-admits : goal.returns-in_err-account-clause-admits
unfolding user_exists
returns-in_err-account-clause-admits c =
    let unknown : at_name c.args.user.now c.self.inside.users.entries ≡ None = search rules in
    let none : c.from_residual.result ≡ None = search rules in
    rw (← c.self.view_is) (ap is_some none ∙ ap is_none (decided_unknown _ c.args.user.now (asked_for c.args.action.now) (ap is_some unknown)))

pub returns-in_err-rights-clause-admits : goal.returns-in_err-rights-clause-admits
unfolding user_exists table_exists
returns-in_err-rights-clause-admits c =
    let there : at_name c.args.user.now c.self.inside.users.entries ≡ Some c.in_ok-account.account.now = search rules in
    let gone : at_name c.in-Some.table.now c.self.inside.tables.entries ≡ None = search rules in
    let named : table_named (asked_for c.args.action.now) ≡ Some c.in-Some.table.now = search rules in
    let none : c.from_residual-in_err-rights.result ≡ None = search rules in
    rw (← c.self.view_is) (ap is_some none ∙ ap is_none (decided_on_none _ c.args.user.now (asked_for c.args.action.now) c.in-Some.table.now (ap is_some there) named (ap is_some gone)))

pub returns-in_default-clause-admits : goal.returns-in_default-clause-admits
unfolding user_exists system_granted
returns-in_default-clause-admits c =
    let there : at_name c.args.user.now c.self.inside.users.entries ≡ Some c.in_ok-account.account.now = search rules in
    let named : table_named (asked_for c.args.action.now) ≡ None = search rules in
    rw (← c.self.view_is)
    (c.admitted.ensures.admits
    ∙ stops_on_server _ c.of.result.system c.of.result.on_table.now (c.of.ensures.tableless named)
    ∙ ap is_none (decided_on_server _ c.args.user.now (asked_for c.args.action.now) c.caller.result.system c.caller.result.on_table c.of.result.system c.of.result.on_table.now (ap is_some there) named
    (λ p. c.caller.ensures.system p ∙ sym (ap (λ o. bytes_eq c.args.user.now root || account_system o p) there)) c.of.ensures.listed (c.of.ensures.tableless named)))

pub returns-in_default-clause-caller : goal.returns-in_default-clause-caller
unfolding system_granted auths_of
returns-in_default-clause-caller c =
    let there : at_name c.args.user.now c.self.inside.users.entries ≡ Some c.in_ok-account.account.now = search rules in
    let named : table_named (asked_for c.args.action.now) ≡ None = search rules in
    rw (← c.self.view_is)
    (found_there c.admitted.result c.caller.result _ c.args.user.now _ c.admitted.ensures.caller (record {
      authorizations = c.caller.ensures.authorizations ∙ sym (ap account_auths there);
      system = λ p. c.caller.ensures.system p ∙ sym (ap (λ o. bytes_eq c.args.user.now root || account_system o p) there);
      on_table = rw named tt;
    }))

pub returns-clause-admits : goal.returns-clause-admits
unfolding user_exists table_exists system_granted table_granted
returns-clause-admits c =
    let table = c.in-Some.table.now in
    let there : at_name c.args.user.now c.self.inside.users.entries ≡ Some c.in_ok-account.account.now = search rules in
    let has : at_name table c.self.inside.tables.entries ≡ Some c.in_ok-rights.rights.now = search rules in
    let named : table_named (asked_for c.args.action.now) ≡ Some table = search rules in
    let of : (p : TablePermission) → table_contains c.caller-2.result.on_table p ≡ table_gives (at_name table c.self.inside.tables.entries) (account_life (at_name c.args.user.now c.self.inside.users.entries)) p =
    λ p. ap (λ s. table_contains s p) c.caller-2.ensures.on_table ∙ c.of-3.ensures p ∙ sym (λ i. table_gives (has i) (account_life (there i)) p) in
    rw (← c.self.view_is)
    (c.admitted-2.ensures.admits
    ∙ stops _ c.of-2.result.system c.of-2.result.on_table.now table
    ∙ ap is_none (decided_on_table _ c.args.user.now (asked_for c.args.action.now) c.caller-2.result.system c.caller-2.result.on_table table c.of-2.result.system c.of-2.result.on_table.now (ap is_some there) named (ap is_some has)
    (λ p. c.caller-2.ensures.system p ∙ sym (ap (λ o. bytes_eq c.args.user.now root || account_system o p) there)) of c.of-2.ensures.listed))

pub returns-clause-caller : goal.returns-clause-caller
unfolding system_granted table_granted auths_of
returns-clause-caller c =
    let table = c.in-Some.table.now in
    let there : at_name c.args.user.now c.self.inside.users.entries ≡ Some c.in_ok-account.account.now = search rules in
    let has : at_name table c.self.inside.tables.entries ≡ Some c.in_ok-rights.rights.now = search rules in
    let named : table_named (asked_for c.args.action.now) ≡ Some table = search rules in
    let of : (p : TablePermission) → table_contains c.caller-2.result.on_table p ≡ table_gives (at_name table c.self.inside.tables.entries) (account_life (at_name c.args.user.now c.self.inside.users.entries)) p =
    λ p. ap (λ s. table_contains s p) c.caller-2.ensures.on_table ∙ c.of-3.ensures p ∙ sym (λ i. table_gives (has i) (account_life (there i)) p) in
    rw (← c.self.view_is)
    (found_there c.admitted-2.result c.caller-2.result _ c.args.user.now _ c.admitted-2.ensures.caller (record {
      authorizations = c.caller-2.ensures.authorizations ∙ sym (ap account_auths there);
      system = λ p. c.caller-2.ensures.system p ∙ sym (ap (λ o. bytes_eq c.args.user.now root || account_system o p) there);
      on_table = rw named of;
    }))
