use Rattle.std.proofs.Common.{◌≡◌, Some, None, rules}
use Rattle.std.specs.List.Sorted.{IsSortedBy}
use Rattle.std.proofs.lemmas.List.Sorted.{answers_always}
use Rattle.tab_policy.specs.Entries.{at_name}
use Rattle.tab_policy.proofs.HolderLemmas.{before, before_order, holders_are, nobody_holds}
use Rattle.tab_policy.proofs.policy.Policy.holders.Goals as goal

pub returns-in_default : goal.returns-in_default
returns-in_default c =
    let gone : at_name c.args.table.now c.self.inside.tables.entries ≡ None = search rules in
    rw (c.new.ensures, ← c.self.view_is) (nobody_holds _ c.args.table.now gone)

pub returns : goal.returns
returns c =
    let there : at_name c.args.table.now c.self.inside.tables.entries ≡ Some c.in-Some.rights.now = search rules in
    let hs = c.sort_unstable_by.new.self.items in
    let sorted : IsSortedBy before hs = c.sort_unstable_by.ensures.sorted before before_order (answers_always _ _ _ (λ f a r g h. search rules)) in
    rw (c.from_vec.ensures, ← c.self.view_is)
    (holders_are c.self.inside.users.entries c.self.inside.lives.living.entries c.self.inside.tables.entries c.self.inside.lives.next c.args.table.now c.in-Some.rights.now c.in_ok-holders.holders.items hs
    c.self.invariant there c.in_ok-holders.ensures.apart c.in_ok-holders.ensures.all c.sort_unstable_by.ensures.permutation sorted)
