use Rattle.std.proofs.Common.{◌≡◌, Some, None, true, refl, ap, rules, is_some}
use Rattle.std.proofs.lemmas.Result.{on_ok_weaker}
use Rattle.tab_policy.specs.Accounts.{with_system}
use Rattle.tab_policy.specs.Entries.{at_name}
use Rattle.tab_policy.specs.State.{account_life, table_granted}
use Rattle.tab_policy.specs.Lives.{name_among, life_among}
use Rattle.tab_policy.proofs.LivesLemmas.{account_changed, rights_changed, not_begun, changed_for}
use Rattle.tab_policy.proofs.Changes.{system_given, right_given, right_given_to_none}
use Rattle.tab_policy.proofs.policy.Policy.grant.Goals as goal

pub invariant_of-self : goal.invariant_of-self
invariant_of-self c =
    account_changed c.self.inside.users.entries c.set_system.new.users.entries (name_among c.self.inside.lives.living.entries) c.self.inside.tables.entries c.self.inside.lives.next
    c.args.user.now (with_system c.in-OfSystem.granted true) (λ a. refl) c.set_system.ensures.names c.self.invariant

pub invariant_of-self-in-OfTable : goal.invariant_of-self-in-OfTable
invariant_of-self-in-OfTable c =
    let known : at_name c.args.user.now c.self.inside.users.entries ≡ Some c.in-Some.account.now = search rules in
    let there : life_among c.self.inside.users.entries c.args.user.now ≡ Some c.in-Some.account.now.life = ap account_life known in
    rights_changed c.self.inside.users.entries (name_among c.self.inside.lives.living.entries) c.self.inside.tables.entries c.give.new.tables.entries c.self.inside.lives.next
    (λ t l p to_come. c.give.ensures.bare t l p (not_begun c.in-Some.account.now.life c.self.inside.lives.next l (c.self.invariant.begun c.args.user.now c.in-Some.account.now.life there) to_come))
    c.self.invariant

pub returns-in-OfSystem-clause-ok : goal.returns-in-OfSystem-clause-ok
returns-in-OfSystem-clause-ok c = rw (c.in-OfSystem.is, ← c.self.view_is)
    (system_given c.self.inside.users.entries c.set_system.new.users.entries c.self.inside.tables.entries c.args.user.now c.in-OfSystem.granted c.set_system.ensures.names c.set_system.ensures.count)

pub returns-in_default-clause-ok : goal.returns-in_default-clause-ok
returns-in_default-clause-ok c =
    let unknown : at_name c.args.user.now c.self.inside.users.entries ≡ None = search rules in
    rw (c.in-OfTable.is, ← c.self.view_is) (right_given_to_none c.self.inside.users.entries c.self.inside.tables.entries c.args.user.now c.in-OfTable.table c.in-OfTable.granted (ap is_some unknown))

pub returns-in-Some-clause-ok : goal.returns-in-Some-clause-ok
unfolding table_granted
returns-in-Some-clause-ok c =
    let known : at_name c.args.user.now c.self.inside.users.entries ≡ Some c.in-Some.account.now = search rules in
    rw (c.in-OfTable.is, ← c.self.view_is)
    (on_ok_weaker c.give.result
    (λ given. right_given c.self.inside.users.entries c.self.inside.tables.entries c.give.new.tables.entries c.args.user.now c.in-OfTable.table c.in-OfTable.granted (ap is_some known) c.give.ensures.tables
    (λ s q p. changed_for c.self.invariant c.args.user.now q c.in-Some.account.now.life _ _ p (is_some (at_name c.in-OfTable.table c.self.inside.tables.entries)) _ true (ap account_life known) (λ m lives. given s m p lives)))
    c.give.ensures.living)
