use Rattle.std.proofs.Common.{rules}
use Rattle.tab_core.specs.Holding.{held}
use Rattle.tab_core.proofs.PolicyActs.{no_user_drops, root_stays_user, user_dropped}
use Rattle.tab_core.proofs.store.Store.drop_user.Goals as goal

pub returns-then-not-user_exists : goal.returns-then-not-user_exists
returns-then-not-user_exists c = no_user_drops (held c.args.self.now) c.args.now c.args.user.now c.args.name.now c.requires (search rules)

pub returns-then-is_root : goal.returns-then-is_root
returns-then-is_root c = root_stays_user (held c.args.self.now) c.args.now c.args.user.now c.args.name.now c.requires (search rules) (search rules)

pub returns : goal.returns
returns c = user_dropped (held c.args.self.now) c.drop_user.new.self c.args.now c.args.user.now c.args.name.now c.requires (search rules) (search rules) c.drop_user.ensures
