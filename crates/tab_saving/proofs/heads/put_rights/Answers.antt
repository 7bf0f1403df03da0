use Rattle.std.proofs.Common.{◌≡◌, sym, subst, rules}
use Rattle.tab_io.specs.Writing.{HasPut, HasPutPart}
use Rattle.tab_policy.specs.Holders.{AreHolders}
use Rattle.tab_saving.proofs.HolderRights.{holders_written}
use Rattle.tab_saving.proofs.Texts.{last_fails}
use Rattle.tab_saving.proofs.heads.put_rights.Goals as goal

pub returns-in_err-put_holders : goal.returns-in_err-put_holders
returns-in_err-put_holders g c = λ names users.
    let s = c.args.policy.now in
    let t = c.args.name.now in
    let same : c.as_slice.result.now ≡ c.in_ok-holders.holders = search rules in
    let written = holders_written s names t c.as_slice.result.now users (subst (AreHolders s t) (sym same) c.in_ok-holders.ensures) in
    last_fails g.W.Output c.args.output.now c.put_holders.new.output _ c.from_residual-in_err-put_holders.result
    (subst (HasPutPart g.W.Output c.args.output.now c.put_holders.new.output) written c.in_err-put_holders.ensures) c.from_residual-in_err-put_holders.ensures

pub returns : goal.returns
returns g c = λ names users.
    let s = c.args.policy.now in
    let t = c.args.name.now in
    let same : c.as_slice.result.now ≡ c.in_ok-holders.holders = search rules in
    let written = holders_written s names t c.as_slice.result.now users (subst (AreHolders s t) (sym same) c.in_ok-holders.ensures) in
    subst (HasPut g.W.Output c.args.output.now c.put_holders.new.output) written c.in_ok-put_holders.ensures
