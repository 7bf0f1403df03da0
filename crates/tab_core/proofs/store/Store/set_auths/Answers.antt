use Rattle.std.proofs.Common.{◌≡◌, rules}
use Rattle.tab_core.specs.Holding.{held}
use Rattle.tab_core.proofs.PolicyActs.{too_many, no_user, auths_set}
use Rattle.tab_core.proofs.store.Store.set_auths.Goals as goal

pub returns-then-too_many_auths-clause-does : goal.returns-then-too_many_auths-clause-does
returns-then-too_many_auths-clause-does c = too_many (held c.args.self.now) c.args.now c.args.user.now c.args.name.now c.args.auths.now c.requires (search rules)

pub returns-then-not-known-clause-does : goal.returns-then-not-known-clause-does
returns-then-not-known-clause-does c = no_user (held c.args.self.now) c.args.now c.args.user.now c.args.name.now c.args.auths.now c.requires (search rules) (search rules)

pub returns-clause-does : goal.returns-clause-does
returns-clause-does c =
    let same : c.replace-given.result ≡ c.args.auths.now = search rules in
    auths_set (held c.args.self.now) c.set_auths.new.self c.args.now c.args.user.now c.args.name.now c.args.auths.now c.requires (search rules) (search rules) (rw same at c.set_auths.ensures)
