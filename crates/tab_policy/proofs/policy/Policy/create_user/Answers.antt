use Rattle.std.proofs.Common.{◌≡◌, ◌+◌, ◌∙◌, ℕ, List, Some, None, cond, length, sym, ap, subst, arith, is_some, bytes_eq}
use Rattle.tab_policy.specs.Entries.{at_name, at_life, same_life}
use Rattle.tab_policy.specs.State.{user_exists, user_count, account_life}
use Rattle.tab_policy.specs.Lives.{AreLived, is_life, life_among, name_among, gives_among}
use Rattle.tab_policy.proofs.LivesLemmas.{user_comes}
use Rattle.tab_policy.proofs.Changes.{user_renewed}
use Rattle.tab_policy.proofs.policy.Policy.create_user.Goals as goal

pub invariant_of-self-in-Ok : goal.invariant_of-self-in-Ok
invariant_of-self-in-Ok c =
    let old = c.self.inside.users.entries in
    let new = c.put_account.new.users.entries in
    let living = c.self.inside.lives.living.entries in
    let begun = c.begin.new.self.living.entries in
    let tables = c.self.inside.tables.entries in
    let begins : (l : ℕ) → at_life l begun ≡ cond (same_life c.self.inside.lives.next l) (Some c.in_ok-key.key) (at_life l living) =
    subst (λ (k : List ℕ). (l : ℕ) → at_life l begun ≡ cond (same_life c.self.inside.lives.next l) (Some k) (at_life l living)) (c.in_ok-kept.ensures ∙ sym c.in_ok-key.ensures) c.in_ok-life.ensures.living in
    let ends : (l : ℕ) → at_life l c.end.new.self.living.entries ≡ cond (is_life (account_life (at_name c.in_ok-key.key old)) l) None (at_life l begun) =
    λ l. c.end.ensures.living l ∙ ap (λ o. cond (is_life o l) None (at_life l begun)) c.in-Ok.ensures.before in
    subst (AreLived (life_among new) (name_among c.end.new.self.living.entries) (gives_among tables)) (sym (c.end.ensures.next ∙ c.in_ok-life.ensures.next))
    (user_comes old new living begun c.end.new.self.living.entries tables c.self.inside.lives.next c.in_ok-key.key _ (c.new-3.ensures.life ∙ c.in_ok-life.ensures.life) c.in-Ok.ensures.names begins ends c.self.invariant)

pub returns-in-Ok-clause-ok : goal.returns-in-Ok-clause-ok
unfolding user_exists user_count
returns-in-Ok-clause-ok c =
    let old = c.self.inside.users.entries in
    let new = c.put_account.new.users.entries in
    rw (← c.self.view_is)
    (user_renewed old new c.self.inside.tables.entries c.args.user.now (Some c.new-3.result) _
    (subst (λ (k : List ℕ). length new ≡ cond (is_some (at_name k old)) (length old) (length old + 1)) c.in_ok-key.ensures c.in-Ok.ensures.count)
    c.new-3.ensures.auths c.new-3.ensures.system
    (λ t p. c.self.invariant.bare t c.new-3.result.life p (omega (arith, c.new-3.ensures.life ∙ c.in_ok-life.ensures.life)))
    (subst (λ (k : List ℕ). (q : List ℕ) → at_name q new ≡ cond (bytes_eq k q) (Some c.new-3.result) (at_name q old)) c.in_ok-key.ensures c.in-Ok.ensures.names))
