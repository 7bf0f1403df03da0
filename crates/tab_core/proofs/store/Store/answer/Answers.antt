use Rattle.std.proofs.Common.{◌≡◌, Some, None, refl, sym, ap, ◌∙◌, subst, rules, to_z, of_z, w64}
use Rattle.tab_policy.specs.Actions.{Action, table_named}
use Rattle.tab_policy.specs.Decisions.{decision}
use Rattle.tab_policy.specs.State.{standing_of, IsCaller}
use Rattle.tab_history.specs.declared.event.Act.TheVariants as act
use Rattle.tab_history.specs.Checks.{denial, action_of}
use Rattle.tab_store.specs.Stepping.{Compacting, On}
use Rattle.tab_store.proofs.Changed.{next_unused}
use Rattle.tab_core.specs.Holding.{held}
use Rattle.tab_core.proofs.Admitting.{denied, admitted, is_admitted, admitted_there}
use Rattle.tab_core.proofs.Opening.{tablets_apart}
use Rattle.tab_core.proofs.store.Store.answer.Goals as goal

pub returns-in-Err-clause-acts : goal.returns-in-Err-clause-acts
returns-in-Err-clause-acts c =
    let d : Some c.in-Err.denial ≡ decision (standing_of c.args.self.now.policy c.args.user.now) (action_of c.args.act.now) = c.in-Err.ensures.decided ∙ ap (decision (standing_of c.args.self.now.policy c.args.user.now)) c.action_of.ensures in
    denied (held c.args.self.now) c.args.now None c.args.user.now c.args.act.now c.refusal_of.result c.requires (sym (c.refusal_of.ensures ∙ ap (denial c.args.user.now) d))

pub grant-requires-clause-admitted : goal.grant-requires-clause-admitted
grant-requires-clause-admitted c = is_admitted (held c.args.self.now) c.args.user.now c.args.act.now _ _ c.requires c.action_of.ensures c.in-Ok.ensures.decided c.in-Grant.is

pub create_table-requires-clause-admitted : goal.create_table-requires-clause-admitted
create_table-requires-clause-admitted c = is_admitted (held c.args.self.now) c.args.user.now c.args.act.now _ _ c.requires c.action_of.ensures c.in-Ok.ensures.decided c.in-CreateTable.is

pub drop_table-requires-clause-admitted : goal.drop_table-requires-clause-admitted
drop_table-requires-clause-admitted c = is_admitted (held c.args.self.now) c.args.user.now c.args.act.now _ _ c.requires c.action_of.ensures c.in-Ok.ensures.decided c.in-DropTable.is

pub write-requires-clause-unused : goal.write-requires-clause-unused
write-requires-clause-unused c = next_unused (held c.args.self.now) c.requires.store c.in-Write.table

pub write-requires-clause-there : goal.write-requires-clause-there
write-requires-clause-there c = admitted_there (held c.args.self.now) c.args.user.now c.in-Write.table (act.Write c.in-Write.table c.in-Write.mutation) refl (is_admitted (held c.args.self.now) c.args.user.now c.args.act.now _ _ c.requires c.action_of.ensures c.in-Ok.ensures.decided c.in-Write.is)

pub open-requires-clause-there : goal.open-requires-clause-there
open-requires-clause-there c = admitted_there (held c.args.self.now) c.args.user.now c.in-Open.scan.table (act.Open c.in-Open.scan) refl (is_admitted (held c.args.self.now) c.args.user.now c.args.act.now _ _ c.requires c.action_of.ensures c.in-Ok.ensures.decided c.in-Open.is)

pub open-requires-clause-apart : goal.open-requires-clause-apart
open-requires-clause-apart c = tablets_apart (held c.args.self.now) c.requires.store c.in-Open.scan.table

pub returns-in-Open-clause-acts : goal.returns-in-Open-clause-acts
returns-in-Open-clause-acts c =
    admitted (held c.args.self.now) _ c.args.now c.args.now None c.args.user.now c.args.act.now _ _ c.open.result c.requires c.action_of.ensures c.in-Ok.ensures.decided c.in-Open.is refl
    (c.open.ensures.acts c.args.now c.args.self.now.next (held c.args.self.now) c.args.user.now c.requires refl refl (sym c.in-Ok.ensures.caller.authorizations))

pub returns-in-Write-clause-acts : goal.returns-in-Write-clause-acts
returns-in-Write-clause-acts c =
    let trip : to_z w64 (of_z w64 c.args.now) ≡ c.args.now = search rules in
    admitted (held c.args.self.now) _ c.args.now _ None c.args.user.now c.args.act.now _ _ c.write.result c.requires c.action_of.ensures c.in-Ok.ensures.decided c.in-Write.is trip
    (c.write.ensures (held c.args.self.now) c.args.user.now c.requires refl refl (sym c.in-Ok.ensures.caller.authorizations))

pub returns-in-Rights-clause-acts : goal.returns-in-Rights-clause-acts
returns-in-Rights-clause-acts c =
    let caller : IsCaller c.in-Ok.caller c.args.self.now.policy c.args.user.now (Some c.in-Rights.field-0) =
    subst (λ (a : Action). IsCaller c.in-Ok.caller c.args.self.now.policy c.args.user.now (table_named a)) (c.action_of.ensures ∙ ap action_of c.in-Rights.is) c.in-Ok.ensures.caller in
    admitted (held c.args.self.now) (held c.args.self.now) c.args.now c.args.now None c.args.user.now c.args.act.now _ _ c.rights.result c.requires c.action_of.ensures c.in-Ok.ensures.decided c.in-Rights.is refl
    (c.rights.ensures (held c.args.self.now) c.args.now c.args.user.now c.in-Rights.field-0 c.requires caller)

pub returns-in-Status-clause-acts : goal.returns-in-Status-clause-acts
returns-in-Status-clause-acts c =
    let trip : to_z w64 (of_z w64 c.args.now) ≡ c.args.now = search rules in
    admitted (held c.args.self.now) (held c.args.self.now) c.args.now _ None c.args.user.now c.args.act.now _ _ c.status.result c.requires c.action_of.ensures c.in-Ok.ensures.decided c.in-Status.is trip c.status.ensures

pub returns-in-CreateTable-clause-acts : goal.returns-in-CreateTable-clause-acts
returns-in-CreateTable-clause-acts c =
    let trip : to_z w64 (of_z w64 c.args.now) ≡ c.args.now = search rules in
    admitted (held c.args.self.now) (held c.create_table.new.self) c.args.now _ None c.args.user.now c.args.act.now _ _ c.create_table.result c.requires c.action_of.ensures c.in-Ok.ensures.decided c.in-CreateTable.is trip c.create_table.ensures

pub returns-in-DropTable-clause-acts : goal.returns-in-DropTable-clause-acts
returns-in-DropTable-clause-acts c =
    let trip : to_z w64 (of_z w64 c.args.now) ≡ c.args.now = search rules in
    admitted (held c.args.self.now) (held c.drop_table.new.self) c.args.now _ None c.args.user.now c.args.act.now _ _ c.drop_table.result c.requires c.action_of.ensures c.in-Ok.ensures.decided c.in-DropTable.is trip c.drop_table.ensures

pub returns-in-SetConstraints-clause-acts : goal.returns-in-SetConstraints-clause-acts
returns-in-SetConstraints-clause-acts c =
    let trip : to_z w64 (of_z w64 c.args.now) ≡ c.args.now = search rules in
    admitted (held c.args.self.now) (held c.set_constraints.new.self) c.args.now _ None c.args.user.now c.args.act.now _ _ c.set_constraints.result c.requires c.action_of.ensures c.in-Ok.ensures.decided c.in-SetConstraints.is trip c.set_constraints.ensures.does

pub returns-in-SetVersions-clause-acts : goal.returns-in-SetVersions-clause-acts
returns-in-SetVersions-clause-acts c =
    let trip : to_z w64 (of_z w64 c.args.now) ≡ c.args.now = search rules in
    admitted (held c.args.self.now) (held c.set_versions.new.self) c.args.now _ None c.args.user.now c.args.act.now _ _ c.set_versions.result c.requires c.action_of.ensures c.in-Ok.ensures.decided c.in-SetVersions.is trip c.set_versions.ensures

pub returns-in-SetHorizon-clause-acts : goal.returns-in-SetHorizon-clause-acts
returns-in-SetHorizon-clause-acts c =
    let trip : to_z w64 (of_z w64 c.args.now) ≡ c.args.now = search rules in
    let low : c.in-SetHorizon.field-1 ≡ to_z w64 (of_z w64 c.horizon_asked-horizon.result) = search rules in
    admitted (held c.args.self.now) (held c.set_horizon.new.self) c.args.now _ None c.args.user.now c.args.act.now _ _ c.set_horizon.result c.requires c.action_of.ensures c.in-Ok.ensures.decided (c.in-SetHorizon.is ∙ ap (λ n. act.SetHorizon c.in-SetHorizon.table n) low) trip c.set_horizon.ensures

pub returns-in-CreateUser-clause-acts : goal.returns-in-CreateUser-clause-acts
returns-in-CreateUser-clause-acts c =
    let trip : to_z w64 (of_z w64 c.args.now) ≡ c.args.now = search rules in
    admitted (held c.args.self.now) (held c.create_user.new.self) c.args.now _ None c.args.user.now c.args.act.now _ _ c.create_user.result c.requires c.action_of.ensures c.in-Ok.ensures.decided c.in-CreateUser.is trip c.create_user.ensures

pub returns-in-DropUser-clause-acts : goal.returns-in-DropUser-clause-acts
returns-in-DropUser-clause-acts c =
    let trip : to_z w64 (of_z w64 c.args.now) ≡ c.args.now = search rules in
    admitted (held c.args.self.now) (held c.drop_user.new.self) c.args.now _ None c.args.user.now c.args.act.now _ _ c.drop_user.result c.requires c.action_of.ensures c.in-Ok.ensures.decided c.in-DropUser.is trip c.drop_user.ensures

pub returns-in-SetAuths-clause-acts : goal.returns-in-SetAuths-clause-acts
returns-in-SetAuths-clause-acts c =
    let trip : to_z w64 (of_z w64 c.args.now) ≡ c.args.now = search rules in
    admitted (held c.args.self.now) (held c.set_auths.new.self) c.args.now _ None c.args.user.now c.args.act.now _ _ c.set_auths.result c.requires c.action_of.ensures c.in-Ok.ensures.decided c.in-SetAuths.is trip c.set_auths.ensures.does

pub returns-in-Grant-clause-acts : goal.returns-in-Grant-clause-acts
returns-in-Grant-clause-acts c =
    let trip : to_z w64 (of_z w64 c.args.now) ≡ c.args.now = search rules in
    admitted (held c.args.self.now) (held c.grant.new.self) c.args.now _ None c.args.user.now c.args.act.now _ _ c.grant.result c.requires c.action_of.ensures c.in-Ok.ensures.decided c.in-Grant.is trip c.grant.ensures

pub returns-in-Revoke-clause-acts : goal.returns-in-Revoke-clause-acts
returns-in-Revoke-clause-acts c =
    let trip : to_z w64 (of_z w64 c.args.now) ≡ c.args.now = search rules in
    admitted (held c.args.self.now) (held c.revoke.new.self) c.args.now _ None c.args.user.now c.args.act.now _ _ c.revoke.result c.requires c.action_of.ensures c.in-Ok.ensures.decided c.in-Revoke.is trip c.revoke.ensures

pub returns-in-Flush-clause-acts : goal.returns-in-Flush-clause-acts
returns-in-Flush-clause-acts c =
    let trip : to_z w64 (of_z w64 c.args.now) ≡ c.args.now = search rules in
    admitted (held c.args.self.now) (held c.compact.new.self) c.args.now _ None c.args.user.now c.args.act.now _ _ c.compact.result c.requires c.action_of.ensures c.in-Ok.ensures.decided c.in-Flush.is trip
    (c.compact.ensures (act.Flush c.in-Flush.table) refl)

pub returns-in-Compact-clause-acts : goal.returns-in-Compact-clause-acts
returns-in-Compact-clause-acts c =
    let trip : to_z w64 (of_z w64 c.args.now) ≡ c.args.now = search rules in
    admitted (held c.args.self.now) (held c.compact-in-Compact.new.self) c.args.now _ None c.args.user.now c.args.act.now _ _ c.compact-in-Compact.result c.requires c.action_of.ensures c.in-Ok.ensures.decided c.in-Compact.is trip
    (c.compact-in-Compact.ensures (act.Compact c.in-Compact.table c.in-Compact.extent) (ap (λ k. On c.in-Compact.table (Compacting k)) (sym c.kind_of.ensures)))

pub returns-in-AddSplit-clause-acts : goal.returns-in-AddSplit-clause-acts
returns-in-AddSplit-clause-acts c =
    let trip : to_z w64 (of_z w64 c.args.now) ≡ c.args.now = search rules in
    admitted (held c.args.self.now) (held c.add_split.new.self) c.args.now _ None c.args.user.now c.args.act.now _ _ c.add_split.result c.requires c.action_of.ensures c.in-Ok.ensures.decided c.in-AddSplit.is trip c.add_split.ensures

pub returns-in-SplitBySize-clause-acts : goal.returns-in-SplitBySize-clause-acts
returns-in-SplitBySize-clause-acts c =
    let trip : to_z w64 (of_z w64 c.args.now) ≡ c.args.now = search rules in
    admitted (held c.args.self.now) (held c.halve.new.self) c.args.now _ None c.args.user.now c.args.act.now _ _ c.halve.result c.requires c.action_of.ensures c.in-Ok.ensures.decided c.in-SplitBySize.is trip c.halve.ensures

pub returns-in-Splits-clause-acts : goal.returns-in-Splits-clause-acts
returns-in-Splits-clause-acts c =
    let trip : to_z w64 (of_z w64 c.args.now) ≡ c.args.now = search rules in
    admitted (held c.args.self.now) (held c.args.self.now) c.args.now _ None c.args.user.now c.args.act.now _ _ c.splits.result c.requires c.action_of.ensures c.in-Ok.ensures.decided c.in-Splits.is trip c.splits.ensures

pub returns-in-Save-clause-acts : goal.returns-in-Save-clause-acts
returns-in-Save-clause-acts c =
    let trip : to_z w64 (of_z w64 c.args.now) ≡ c.args.now = search rules in
    admitted (held c.args.self.now) (held c.args.self.now) c.args.now _ None c.args.user.now c.args.act.now _ _ c.save.result c.requires c.action_of.ensures c.in-Ok.ensures.decided c.in-Save.is trip c.save.ensures

pub returns-in-Load-clause-acts : goal.returns-in-Load-clause-acts
returns-in-Load-clause-acts c =
    let trip : to_z w64 (of_z w64 c.args.now) ≡ c.args.now = search rules in
    admitted (held c.args.self.now) (held c.args.self.now) c.args.now _ None c.args.user.now c.args.act.now _ _ c.load.result c.requires c.action_of.ensures c.in-Ok.ensures.decided c.in-Load.is trip c.load.ensures

pub returns-in-Rotate-clause-acts : goal.returns-in-Rotate-clause-acts
returns-in-Rotate-clause-acts c =
    let trip : to_z w64 (of_z w64 c.args.now) ≡ c.args.now = search rules in
    admitted (held c.args.self.now) (held c.args.self.now) c.args.now _ None c.args.user.now c.args.act.now _ _ c.rotate.result c.requires c.action_of.ensures c.in-Ok.ensures.decided c.in-Rotate.is trip c.rotate.ensures

pub returns-in-Begin-clause-acts : goal.returns-in-Begin-clause-acts
returns-in-Begin-clause-acts c =
    let trip : to_z w64 (of_z w64 c.args.now) ≡ c.args.now = search rules in
    admitted (held c.args.self.now) (held c.begin.new.self) c.args.now _ None c.args.user.now c.args.act.now _ _ c.begin.result c.requires c.action_of.ensures c.in-Ok.ensures.decided c.in-Begin.is trip c.begin.ensures

pub returns-in-Install-clause-acts : goal.returns-in-Install-clause-acts
returns-in-Install-clause-acts c =
    let trip : to_z w64 (of_z w64 c.args.now) ≡ c.args.now = search rules in
    admitted (held c.args.self.now) (held c.args.self.now) c.args.now _ None c.args.user.now c.args.act.now _ _ c.install_none.result c.requires c.action_of.ensures c.in-Ok.ensures.decided c.in-Install.is trip c.install_none.ensures
