use Rattle.std.proofs.Common.{None, ap, ◌∙◌, cond}
use Rattle.tab_policy.specs.Entries.{at_name}
use Rattle.tab_policy.proofs.NameLemmas.{same_name}
use Rattle.tab_policy.proofs.account.take_account.Goals as goal

pub returns-clause-names : goal.returns-clause-names
returns-clause-names c =
    λ q. c.remove.ensures.updates.0 q ∙ ap (λ b. cond b None (at_name q c.args.users.now.entries)) (same_name c.args.name.now q)
