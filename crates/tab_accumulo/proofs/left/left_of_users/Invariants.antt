use Rattle.std.proofs.Common.{◌≡◌, take}
use Rattle.std.specs.Prelude.{sum_by}
use Rattle.tab_accumulo.specs.Counting.{capped, left_of_user}
use Rattle.tab_accumulo.proofs.left.left_of_users.Given as goal

abbrev pub invariant-loop-user : goal.invariant-loop-user
invariant-loop-user l = l.left ≡ capped (sum_by left_of_user (take l.user-index l.users))
