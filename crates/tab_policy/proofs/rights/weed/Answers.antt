use Rattle.std.proofs.Common.{◌≡◌, ◌∙◌, ℕ, None, cond, rules}
use Rattle.tab_policy.specs.Entries.{at_life}
use Rattle.tab_policy.specs.Lives.{is_among}
use Rattle.tab_policy.proofs.RightsLemmas.{weeded, weeds_so, none_left}
use Rattle.tab_policy.proofs.rights.weed.Goals as goal

left : (c : goal.After-retain) → (l : ℕ) → at_life l c.retain.new.self.entries ≡ cond (is_among c.args.lives.now.living.entries l) (at_life l c.args.others.now.entries) None
left c l = weeded _ (is_among c.args.lives.now.living.entries) _ (λ k v b w g turn. search rules) l c.args.others.now.entries c.retain.new.self.entries c.retain.ensures.filtered

pub returns-clause-weeds : goal.returns-clause-weeds
returns-clause-weeds c = weeds_so (is_among c.args.lives.now.living.entries) c.args.others.now.entries c.retain.new.self.entries (left c)

pub returns-clause-none : goal.returns-clause-none
returns-clause-none c = λ l none. left c l ∙ none_left (is_among c.args.lives.now.living.entries l) none
