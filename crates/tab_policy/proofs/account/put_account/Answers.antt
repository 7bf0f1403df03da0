use Rattle.std.proofs.Common.{Some, ap, ◌∙◌, cond}
use Rattle.tab_policy.specs.Entries.{at_name}
use Rattle.tab_policy.proofs.NameLemmas.{same_name}
use Rattle.tab_policy.proofs.account.put_account.Goals as goal

pub returns-clause-names : goal.returns-clause-names
returns-clause-names c =
    λ q. c.in_ok-before.ensures.updates.0 q ∙ ap (λ b. cond b (Some c.args.account) (at_name q c.args.users.now.entries)) (same_name c.args.name q)
