use Rattle.std.proofs.Common.{◌≡◌, Some, None, true, false, refl, ap, rules}
use Rattle.tab_policy.specs.Accounts.{with_system}
use Rattle.tab_policy.specs.Entries.{at_name}
use Rattle.tab_policy.specs.State.{account_life, table_granted}
use Rattle.tab_policy.specs.Lives.{name_among, life_among}
use Rattle.tab_policy.proofs.LivesLemmas.{account_changed, changed_for, nothing_taken}
use Rattle.tab_policy.proofs.Changes.{system_revoked, right_revoked}
use Rattle.tab_policy.proofs.policy.Policy.revoke.Goals as goal

pub invariant_of-self : goal.invariant_of-self
invariant_of-self c =
    account_changed c.self.inside.users.entries c.set_system.new.users.entries (name_among c.self.inside.lives.living.entries) c.self.inside.tables.entries c.self.inside.lives.next
    c.args.user.now (with_system c.in-OfSystem.taken false) (λ a. refl) c.set_system.ensures.names c.self.invariant

pub returns-in-OfSystem : goal.returns-in-OfSystem
returns-in-OfSystem c = rw (c.in-OfSystem.is, ← c.self.view_is)
    (system_revoked c.self.inside.users.entries c.set_system.new.users.entries c.self.inside.tables.entries c.args.user.now c.in-OfSystem.taken c.set_system.ensures.names c.set_system.ensures.count)

pub returns-in-Some : goal.returns-in-Some
unfolding table_granted
returns-in-Some c =
    let known : at_name c.args.user.now c.self.inside.users.entries ≡ Some c.in-Some.account.now = search rules in
    let there : life_among c.self.inside.users.entries c.args.user.now ≡ Some c.in-Some.account.now.life = ap account_life known in
    rw (c.in-OfTable.is, ← c.self.view_is)
    (right_revoked c.self.inside.users.entries c.self.inside.tables.entries c.take.new.tables.entries c.args.user.now c.in-OfTable.table c.in-OfTable.taken c.take.ensures.tables
    (λ s q p. changed_for c.self.invariant c.args.user.now q c.in-Some.account.now.life _ _ p true _ false there (λ m lives. c.take.ensures.rights s m p)))

pub returns-in_default : goal.returns-in_default
unfolding table_granted
returns-in_default c =
    let unknown : at_name c.args.user.now c.self.inside.users.entries ≡ None = search rules in
    let gone : life_among c.self.inside.users.entries c.args.user.now ≡ None = ap account_life unknown in
    rw (c.in-OfTable.is, ← c.self.view_is)
    (right_revoked c.self.inside.users.entries c.self.inside.tables.entries c.self.inside.tables.entries c.args.user.now c.in-OfTable.table c.in-OfTable.taken (λ t. refl)
    (λ s q p. nothing_taken c.self.invariant c.args.user.now q (at_name s c.self.inside.tables.entries) p _ gone))
