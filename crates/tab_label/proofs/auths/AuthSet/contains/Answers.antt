use Rattle.std.proofs.Common.{rules}
use Rattle.std.specs.Ordering.{nat_cmp}
use Rattle.std.specs.Cmp.Lexicographic.{slice_cmp}
use Rattle.std.proofs.lemmas.Fn.{always_returns_same}
use Rattle.tab_label.proofs.AuthLemmas.{searched}
use Rattle.tab_label.proofs.SetLemmas.{has_test}
use Rattle.tab_label.proofs.auths.AuthSet.contains.Goals as goal

pub returns-clause-fact : goal.returns-clause-fact
returns-clause-fact c =
    let members = c.self.inside.members.items in
    let facts = c.binary_search_by.ensures in
    let by_order = facts.position (λ v. slice_cmp nat_cmp v.items c.args.term.now) (always_returns_same _ _ _ (λ a r f called. (search rules, search rules))) in
    let found = searched members c.args.term.now c.binary_search_by.result c.self.invariant (rw c.deref.ensures.value at facts.bound) (rw c.deref.ensures.value at by_order) in
    rw (c.is_ok.ensures.value, ← c.self.view_is) found

pub returns-clause-test : goal.returns-clause-test
returns-clause-test c = has_test _ c.args.self.now c.args.term.now (returns-clause-fact c)
