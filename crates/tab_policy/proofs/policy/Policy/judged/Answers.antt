use Rattle.std.proofs.Common.{◌≡◌, ◌∙◌, ◌||◌, Some, None, sym, ap, rules, bytes_eq}
use Rattle.std.specs.Prelude.{is_some}
use Rattle.tab_policy.specs.declared.permission.TablePermission.{TablePermission}
use Rattle.tab_policy.specs.Roots.{root}
use Rattle.tab_policy.specs.Sets.{table_contains}
use Rattle.tab_policy.specs.Entries.{at_name}
use Rattle.tab_policy.specs.Actions.{asked_for, table_named}
use Rattle.tab_policy.specs.State.{user_exists, auths_of, system_granted, table_granted, table_exists, account_auths, account_system, account_life, table_gives}
use Rattle.tab_policy.proofs.Decided.{decided_unknown, decided_on_none, decided_on_server, decided_on_table, found}
use Rattle.tab_policy.proofs.policy.Policy.judged.Goals as goal

pub returns-in_default-clause-decided : goal.returns-in_default-clause-decided
unfolding user_exists
returns-in_default-clause-decided c =
    let unknown : at_name c.args.user.now c.self.inside.users.entries ≡ None = search rules in
    rw (← c.self.view_is) (decided_unknown _ c.args.user.now (asked_for c.args.action.now) (ap is_some unknown))

pub returns-in-None-clause-decided : goal.returns-in-None-clause-decided
unfolding user_exists table_exists
returns-in-None-clause-decided c =
    let there : at_name c.args.user.now c.self.inside.users.entries ≡ Some c.in-Some.account.now = search rules in
    let gone : at_name c.in-Some-table.table.now c.self.inside.tables.entries ≡ None = search rules in
    let named : table_named (asked_for c.args.action.now) ≡ Some c.in-Some-table.table.now = search rules in
    rw (← c.self.view_is) (decided_on_none _ c.args.user.now (asked_for c.args.action.now) c.in-Some-table.table.now (ap is_some there) named (ap is_some gone))

pub returns-in_default-table-clause-decided : goal.returns-in_default-table-clause-decided
unfolding user_exists system_granted
returns-in_default-table-clause-decided c =
    let there : at_name c.args.user.now c.self.inside.users.entries ≡ Some c.in-Some.account.now = search rules in
    let named : table_named (asked_for c.args.action.now) ≡ None = search rules in
    rw (← c.self.view_is)
    (c.decide.ensures.decided
    ∙ decided_on_server _ c.args.user.now (asked_for c.args.action.now) c.caller.result.system c.caller.result.on_table c.of.result.system c.of.result.on_table.now (ap is_some there) named
    (λ p. c.caller.ensures.system p ∙ sym (ap (λ o. bytes_eq c.args.user.now root || account_system o p) there)) c.of.ensures.listed (c.of.ensures.tableless named))

pub returns-in_default-table-clause-caller : goal.returns-in_default-table-clause-caller
unfolding system_granted auths_of
returns-in_default-table-clause-caller c =
    let there : at_name c.args.user.now c.self.inside.users.entries ≡ Some c.in-Some.account.now = search rules in
    let named : table_named (asked_for c.args.action.now) ≡ None = search rules in
    rw (← c.self.view_is)
    (found c.decide.result c.caller.result _ c.args.user.now _ c.decide.ensures.caller (record {
      authorizations = c.caller.ensures.authorizations ∙ sym (ap account_auths there);
      system = λ p. c.caller.ensures.system p ∙ sym (ap (λ o. bytes_eq c.args.user.now root || account_system o p) there);
      on_table = rw named tt;
    }))

pub returns-in-Some-get-clause-decided : goal.returns-in-Some-get-clause-decided
unfolding user_exists table_exists system_granted table_granted
returns-in-Some-get-clause-decided c =
    let there : at_name c.args.user.now c.self.inside.users.entries ≡ Some c.in-Some.account.now = search rules in
    let has : at_name c.in-Some-table.table.now c.self.inside.tables.entries ≡ Some c.in-Some-get.rights.now = search rules in
    let named : table_named (asked_for c.args.action.now) ≡ Some c.in-Some-table.table.now = search rules in
    let of : (p : TablePermission) → table_contains c.caller-in-Some-get.result.on_table p ≡ table_gives (at_name c.in-Some-table.table.now c.self.inside.tables.entries) (account_life (at_name c.args.user.now c.self.inside.users.entries)) p =
    λ p. ap (λ s. table_contains s p) c.caller-in-Some-get.ensures.on_table ∙ c.of-in-Some-get-2.ensures p ∙ sym (λ i. table_gives (has i) (account_life (there i)) p) in
    rw (← c.self.view_is)
    (c.decide-in-Some-get.ensures.decided
    ∙ decided_on_table _ c.args.user.now (asked_for c.args.action.now) c.caller-in-Some-get.result.system c.caller-in-Some-get.result.on_table c.in-Some-table.table.now
    c.of-in-Some-get.result.system c.of-in-Some-get.result.on_table.now (ap is_some there) named (ap is_some has)
    (λ p. c.caller-in-Some-get.ensures.system p ∙ sym (ap (λ o. bytes_eq c.args.user.now root || account_system o p) there)) of c.of-in-Some-get.ensures.listed)

pub returns-in-Some-get-clause-caller : goal.returns-in-Some-get-clause-caller
unfolding system_granted table_granted auths_of
returns-in-Some-get-clause-caller c =
    let there : at_name c.args.user.now c.self.inside.users.entries ≡ Some c.in-Some.account.now = search rules in
    let has : at_name c.in-Some-table.table.now c.self.inside.tables.entries ≡ Some c.in-Some-get.rights.now = search rules in
    let named : table_named (asked_for c.args.action.now) ≡ Some c.in-Some-table.table.now = search rules in
    let of : (p : TablePermission) → table_contains c.caller-in-Some-get.result.on_table p ≡ table_gives (at_name c.in-Some-table.table.now c.self.inside.tables.entries) (account_life (at_name c.args.user.now c.self.inside.users.entries)) p =
    λ p. ap (λ s. table_contains s p) c.caller-in-Some-get.ensures.on_table ∙ c.of-in-Some-get-2.ensures p ∙ sym (λ i. table_gives (has i) (account_life (there i)) p) in
    rw (← c.self.view_is)
    (found c.decide-in-Some-get.result c.caller-in-Some-get.result _ c.args.user.now _ c.decide-in-Some-get.ensures.caller (record {
      authorizations = c.caller-in-Some-get.ensures.authorizations ∙ sym (ap account_auths there);
      system = λ p. c.caller-in-Some-get.ensures.system p ∙ sym (ap (λ o. bytes_eq c.args.user.now root || account_system o p) there);
      on_table = rw named of;
    }))
