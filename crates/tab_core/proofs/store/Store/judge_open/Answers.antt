use Rattle.std.proofs.Common.{◌≡◌, Some, None, refl, sym, ap, ◌∙◌}
use Rattle.tab_policy.specs.Decisions.{decision}
use Rattle.tab_policy.specs.State.{standing_of}
use Rattle.tab_history.specs.declared.event.Act.{Act}
use Rattle.tab_history.specs.declared.event.Act.TheVariants.{Open}
use Rattle.tab_history.specs.Checks.{denial, action_of}
use Rattle.tab_core.specs.Holding.{held}
use Rattle.tab_core.proofs.Admitting.{denied, admitted, is_admitted, admitted_there}
use Rattle.tab_core.proofs.Opening.{tablets_apart}
use Rattle.tab_core.proofs.store.Store.judge_open.Goals as goal

pub returns-in-Err-clause-acts : goal.returns-in-Err-clause-acts
returns-in-Err-clause-acts c =
    let act : Act = Open c.args.scan.now in
    let d : Some c.in-Err.denial ≡ decision (standing_of c.args.self.now.policy c.args.user.now) (action_of act) = c.in-Err.ensures.decided in
    denied (held c.args.self.now) c.args.now None c.args.user.now act c.refusal_of.result c.requires (sym (c.refusal_of.ensures ∙ ap (denial c.args.user.now) d))

pub open-requires-clause-there : goal.open-requires-clause-there
open-requires-clause-there c =
    let act : Act = Open c.args.scan.now in
    let d : None ≡ decision (standing_of c.args.self.now.policy c.args.user.now) (action_of act) = c.in-Ok.ensures.decided in
    admitted_there (held c.args.self.now) c.args.user.now c.args.scan.now.table act refl (is_admitted (held c.args.self.now) c.args.user.now act act (action_of act) c.requires refl d refl)

pub open-requires-clause-apart : goal.open-requires-clause-apart
open-requires-clause-apart c = tablets_apart (held c.args.self.now) c.requires.store c.args.scan.now.table

pub returns-in-Ok-clause-acts : goal.returns-in-Ok-clause-acts
returns-in-Ok-clause-acts c =
    let act : Act = Open c.args.scan.now in
    let d : None ≡ decision (standing_of c.args.self.now.policy c.args.user.now) (action_of act) = c.in-Ok.ensures.decided in
    admitted (held c.args.self.now) _ c.args.now c.args.now None c.args.user.now act act (action_of act) c.open.result c.requires refl d refl refl
    (c.open.ensures.acts c.args.now c.args.self.now.next (held c.args.self.now) c.args.user.now c.requires refl refl (sym c.in-Ok.ensures.caller.authorizations))
