use Rattle.std.proofs.Common.{◌≡◌, ◌∙◌, ℕ, List, Some, cond, sym, subst}
use Rattle.tab_policy.specs.Entries.{at_life, same_life}
use Rattle.tab_policy.proofs.LivesLemmas.{first_user}
use Rattle.tab_policy.proofs.policy.Policy.new.Goals as goal

pub invariant_of-result : goal.invariant_of-result
invariant_of-result c =
    let kept_is : c.in_ok-kept.kept ≡ c.in_ok-key.key = c.in_ok-kept.ensures ∙ c.root_name-2.ensures ∙ sym (c.in_ok-key.ensures ∙ c.root_name.ensures) in
    let begins : (l : ℕ) → at_life l c.begin.new.self.living.entries ≡ cond (same_life c.new-lives.result.next l) (Some c.in_ok-key.key) (at_life l c.new-lives.result.living.entries) =
    subst (λ (k : List ℕ). (l : ℕ) → at_life l c.begin.new.self.living.entries ≡ cond (same_life c.new-lives.result.next l) (Some k) (at_life l c.new-lives.result.living.entries)) kept_is c.in_ok-begin.ensures.living in
    first_user c.new-users.result.entries c.put_account.new.users.entries c.new-lives.result.living.entries c.begin.new.self.living.entries c.new-3.result.entries c.new-lives.result.next c.begin.new.self.next c.in_ok-key.key _
    c.new-users.ensures.empty c.new-lives.ensures.living c.new-3.ensures.empty c.new-lives.ensures.next c.in_ok-begin.ensures.next (c.new-account.ensures.life ∙ c.in_ok-begin.ensures.life) c.in_ok-put_account.ensures.names begins
