use Rattle.std.proofs.Common.{◌≡◌, subst, rules}
use Rattle.std.specs.Prelude.{IfSome}
use Rattle.tab_io.specs.Writing.{Puts}
use Rattle.tab_policy.specs.declared.sets.SystemPermissions.{SystemPermissions}
use Rattle.tab_policy.specs.declared.permission.SystemPermission.{SystemPermission}
use Rattle.tab_policy.specs.Sets.{system_contains}
use Rattle.tab_policy.specs.State.{auths_of, has_system}
use Rattle.tab_image.specs.Spelling.{user_bytes}
use Rattle.tab_image.specs.declared.user.ImageUser.{ImageUser}
use Rattle.tab_saving.specs.ImageOf.{user_of}
use Rattle.tab_saving.proofs.Granted.{system_is}
use Rattle.tab_saving.proofs.users.put_named.Goals as goal

pub returns-clause-put : goal.returns-clause-put
returns-clause-put g c =
    let s = c.args.policy.now in
    let n = c.args.name.now in
    let set : (p : SystemPermission) → system_contains c.unwrap-system.result p ≡ has_system s n p = subst (λ o. IfSome o (λ (set : SystemPermissions). (p : SystemPermission) → system_contains set p ≡ has_system s n p)) c.unwrap-system.ensures c.system_of.ensures.system in
    let system = system_is s c.requires.root n c.unwrap-system.result set in
    let authorizations : c.unwrap-authorizations.result.now ≡ auths_of s n = search rules in
    let user : record { name = n; system = c.unwrap-system.result; authorizations = c.unwrap-authorizations.result.now } ≡ user_of s n = λ i. record { name = n; system = system i; authorizations = authorizations i } in
    subst (λ (u : ImageUser). Puts g.W.Output c.args.output.now c.put_user.new.output (user_bytes u) c.put_user.result) user c.put_user.ensures
