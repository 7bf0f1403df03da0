use Rattle.std.proofs.Common.{◌≡◌, length}
use Rattle.std.specs.List.{fold}
use Rattle.std.specs.Vec.Iter.{into_iter_items, into_iter_len}
use Rattle.tab_policy.specs.State.{readings}
use Rattle.tab_loading.specs.Policies.{with_user}
use Rattle.tab_loading.proofs.users.put_users.Given as goal

-- the users that are left, put there too, leave what all of them do
abbrev pub invariant-loop-user : goal.invariant-loop-user
invariant-loop-user l = record {
  left : into_iter_len l.user-iterator ≡ length (into_iter_items l.user-iterator);
  read : fold with_user (readings l.policy) (into_iter_items l.user-iterator) ≡ fold with_user (readings l.initial.policy) l.fn.users.items;
}
