use Rattle.std.proofs.Common.{◌≡◌, true, false, refl, subst, sym, ◌∙◌, rules}
use Rattle.std.specs.Prelude.{nat_le}
use Rattle.tab_policy.specs.State.{State, user_count}
use Rattle.tab_history.specs.declared.event.Act.TheVariants as act
use Rattle.tab_history.specs.declared.reply.Refusal.TheVariants.{NoMemory}
use Rattle.tab_history.specs.declared.reply.Reply.TheVariants.{Refused}
use Rattle.tab_core.specs.Holding.{held}
use Rattle.tab_core.specs.Stepping.{Does}
use Rattle.tab_core.proofs.Acting.{lacked}
use Rattle.tab_core.proofs.PolicyActs.{user_there, users_used_up, user_made}
use Rattle.tab_core.proofs.store.Store.create_user.Goals as goal

pub returns-then-user_exists : goal.returns-then-user_exists
returns-then-user_exists c = user_there (held c.args.self.now) c.args.now c.args.user.now c.args.name.now c.requires (sym c.user_exists.ensures ∙ c.if-user_exists.true)

pub returns-then-user_count-ge-MAX_USERS : goal.returns-then-user_count-ge-MAX_USERS
returns-then-user_count-ge-MAX_USERS c =
    let full : nat_le 4294967295 (user_count c.args.self.now.policy) ≡ true = search rules in
    users_used_up (held c.args.self.now) c.args.now c.args.user.now c.args.name.now c.requires (sym c.user_exists.ensures ∙ c.if-user_exists.false) full

pub returns-in-Ok : goal.returns-in-Ok
returns-in-Ok c =
    let room : nat_le 4294967295 (user_count c.args.self.now.policy) ≡ false = search rules in
    user_made (held c.args.self.now) c.create_user.new.self c.args.now c.args.user.now c.args.name.now c.requires (sym c.user_exists.ensures ∙ c.if-user_exists.false) room c.in-Ok.ensures.ok

pub returns-in-Err : goal.returns-in-Err
returns-in-Err c =
    subst (λ (p : State). Does c.args.self.now c.args.now c.args.user.now (act.CreateUser c.args.name.now) (Refused NoMemory) (record (c.args.self.now) { policy = p })) (sym c.in-Err.ensures.err)
    (lacked _ (held c.args.self.now) c.args.now c.args.user.now (act.CreateUser c.args.name.now) refl c.requires)
