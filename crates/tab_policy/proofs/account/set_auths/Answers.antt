use Rattle.std.proofs.Common.{◌≡◌, Some, refl, rules}
use Rattle.tab_policy.specs.Accounts.{with_auths}
use Rattle.tab_policy.specs.Entries.{at_name}
use Rattle.tab_policy.proofs.EntryLemmas.{changed_is}
use Rattle.tab_policy.proofs.account.set_auths.Goals as goal

pub returns-in-Some-clause-names : goal.returns-in-Some-clause-names
returns-in-Some-clause-names c =
    let had : at_name c.args.user.now c.args.users.now.entries ≡ Some c.in-Some.account.now = search rules in
    let after = (c.get_mut.follows.holds (with_auths c.args.auths c.in-Some.account.now)).3 (search rules) in
    λ q. changed_is c.args.user.now q c.args.users.now.entries _ c.in-Some.account.now (with_auths c.args.auths c.in-Some.account.now) (with_auths c.args.auths) had refl (after.0 q)

pub returns-in-Some-clause-count : goal.returns-in-Some-clause-count
returns-in-Some-clause-count c = (c.get_mut.follows.holds (with_auths c.args.auths c.in-Some.account.now)).2
