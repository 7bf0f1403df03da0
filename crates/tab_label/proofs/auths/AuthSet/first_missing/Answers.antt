use Rattle.std.proofs.Common.{refl, sym}
use Rattle.tab_label.specs.Sets.{IsFirstMissing}
use Rattle.tab_label.proofs.AuthLemmas.{first_is, one_more_held, all_held, not_all_held, found_first, none_found}
use Rattle.tab_label.proofs.auths.AuthSet.first_missing.Goals as goal

first : (c : goal.After-deref-then-not-contains) → IsFirstMissing c.args.self.now c.args.other.now c.member-item.result.items
first c =
    let members = c.deref-member-items.result.now in
    let found = first_is members c.args.other.now c.loop-member.member-index c.member-item.result (rw (← c.deref-member-items.ensures.value) at c.self.invariant) c.loop-member-test.true c.member-item.is c.loop-member.invariant (λ h. let there = c.contains.ensures.fact.1 (rw c.deref.ensures.value h) in cc) in
    rw (← c.self.view_is, ← c.deref-member-items.ensures.value) found

pub returns-then-not-contains-clause-none : goal.returns-then-not-contains-clause-none
returns-then-not-contains-clause-none c = (λ e. absurd cc, λ all. absurd (not_all_held _ _ _ (first c) all))

pub returns-then-not-contains-clause-some : goal.returns-then-not-contains-clause-some
returns-then-not-contains-clause-some c = rw c.deref-then-not-contains.ensures.value (first c)

pub loop-member-preserved : goal.loop-member-preserved
loop-member-preserved c =
    let held = c.contains.ensures.fact.0 c.if-not-contains.false in
    one_more_held c.deref-member-items.result.now c.args.other.now c.loop-member.member-index c.member-item.result c.loop-member-test.true c.member-item.is c.loop-member.invariant (rw c.deref.ensures.value at held)

pub returns-clause-none : goal.returns-clause-none
returns-clause-none c =
    (λ e. rw (← c.self.view_is, ← c.deref-member-items.ensures.value) (all_held c.deref-member-items.result.now c.args.other.now c.loop-member.member-index c.loop-member-test.false c.loop-member.invariant), λ all. refl)

pub returns-then-not-contains-clause-exact : goal.returns-then-not-contains-clause-exact
returns-then-not-contains-clause-exact c =
    let members = c.deref-member-items.result.now in
    let found = found_first members c.args.other.now c.loop-member.member-index c.member-item.result c.loop-member-test.true c.member-item.is c.loop-member.invariant (λ h. let there = c.contains.ensures.fact.1 (rw c.deref.ensures.value h) in cc) in
    sym (rw (← c.self.view_is, ← c.deref-member-items.ensures.value, c.deref-then-not-contains.ensures.value) found)

pub returns-clause-exact : goal.returns-clause-exact
returns-clause-exact c = sym (rw (← c.self.view_is, ← c.deref-member-items.ensures.value) (none_found c.deref-member-items.result.now c.args.other.now c.loop-member.member-index c.loop-member-test.false c.loop-member.invariant))
