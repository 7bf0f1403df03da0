use Rattle.std.proofs.Common.{take}
use Rattle.std.specs.List.{AllByRecursion, flat_map}
use Rattle.tab_io.specs.Writing.{HasPut}
use Rattle.tab_image.specs.Spelling.{user_bytes}
use Rattle.tab_saving.specs.ImageOf.{user_of}
use Rattle.tab_saving.specs.Typed.{IsTypedUser}
use Rattle.tab_saving.proofs.users.put_each_user.Given as goal

abbrev pub invariant-loop-name : goal.invariant-loop-name
invariant-loop-name g l = record {
  put : HasPut g.W.Output l.initial.output l.output (flat_map (λ n. user_bytes (user_of l.policy n)) (take l.name-index l.names));
  typed : AllByRecursion (IsTypedUser l.policy) (take l.name-index l.names);
}
