use Rattle.std.proofs.Common.{subst}
use Rattle.tab_io.specs.Writing.{HasPut, HasPutPart}
use Rattle.tab_io.proofs.Each.{each_more, each_part}
use Rattle.tab_image.specs.Spelling.{user_bytes}
use Rattle.tab_saving.specs.ImageOf.{user_of}
use Rattle.tab_saving.specs.Typed.{IsTypedUser}
use Rattle.tab_saving.proofs.Granted.{user_at}
use Rattle.tab_saving.proofs.Gathered.{taken_more}
use Rattle.tab_saving.proofs.users.put_each_user.Goals as goal

pub put_named-requires-clause-user : goal.put_named-requires-clause-user
put_named-requires-clause-user g c = user_at c.args.policy.now c.args.names.now c.loop-name.name-index c.name-item.result c.requires.users c.loop-name-test.true c.name-item.is

pub returns-in-Err-clause-put : goal.returns-in-Err-clause-put
returns-in-Err-clause-put g c =
    each_part (λ n. user_bytes (user_of c.args.policy.now n)) c.args.names.now c.loop-name.name-index c.name-item.result c.loop-name-test.true c.loop-name.invariant.put
    (subst (λ x. HasPutPart g.W.Output c.loop-name.output c.put_named.new.output (user_bytes (user_of c.args.policy.now x))) c.name-item.is c.in-Err.ensures.put)

pub loop-name-preserved : goal.loop-name-preserved
loop-name-preserved g c = record {
  put = each_more (λ n. user_bytes (user_of c.args.policy.now n)) c.args.names.now c.loop-name.name-index c.name-item.result c.loop-name-test.true c.loop-name.invariant.put
      (subst (λ x. HasPut g.W.Output c.loop-name.output c.put_named.new.output (user_bytes (user_of c.args.policy.now x))) c.name-item.is c.in-Ok.ensures.put);
  typed = taken_more (IsTypedUser c.args.policy.now) c.args.names.now c.loop-name.name-index c.name-item.result c.loop-name-test.true c.loop-name.invariant.typed (subst (IsTypedUser c.args.policy.now) c.name-item.is c.in-Ok.ensures.typed);
}
