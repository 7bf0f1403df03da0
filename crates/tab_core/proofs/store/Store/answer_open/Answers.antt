use Rattle.std.proofs.Common.{◌≡◌, ℤ, [], None, refl, sym, subst, rules, to_z, of_z, w64}
use Rattle.tab_policy.specs.Decisions.{decision}
use Rattle.tab_policy.specs.State.{standing_of}
use Rattle.tab_history.specs.declared.event.Act.{Act}
use Rattle.tab_history.specs.declared.event.Act.TheVariants.{Open}
use Rattle.tab_history.specs.Checks.{action_of}
use Rattle.tab_history.specs.Answers.{event_answer}
use Rattle.tab_store.specs.Stores.{base_of}
use Rattle.tab_core.specs.Holding.{held}
use Rattle.tab_core.specs.Stepping.{Acts}
use Rattle.tab_core.proofs.Admitting.{admitted, nothing_stops, is_admitted, admitted_there}
use Rattle.tab_core.proofs.Opening.{tablets_apart}
use Rattle.tab_core.proofs.store.Store.answer_open.Goals as goal

pub open-requires-clause-there : goal.open-requires-clause-there
open-requires-clause-there c =
    let act : Act = Open c.args.scan.now in
    let d : None ≡ decision (standing_of c.args.self.now.policy c.args.user.now) (action_of act) = nothing_stops _ c.in-Some.ensures.admits in
    admitted_there (held c.args.self.now) c.args.user.now c.args.scan.now.table act refl (is_admitted (held c.args.self.now) c.args.user.now act act (action_of act) c.requires refl d refl)

pub open-requires-clause-apart : goal.open-requires-clause-apart
open-requires-clause-apart c = tablets_apart (held c.args.self.now) c.requires.store c.args.scan.now.table

pub returns-in-Some-clause-acts : goal.returns-in-Some-clause-acts
returns-in-Some-clause-acts c =
    let act : Act = Open c.args.scan.now in
    let d : None ≡ decision (standing_of c.args.self.now.policy c.args.user.now) (action_of act) = nothing_stops _ c.in-Some.ensures.admits in
    admitted (held c.args.self.now) _ c.args.now c.args.now None c.args.user.now act act (action_of act) c.open.result c.requires refl d refl refl
    (c.open.ensures.acts c.args.now c.args.self.now.next (held c.args.self.now) c.args.user.now c.requires refl refl (sym c.in-Some.ensures.caller.authorizations))

pub returns-in-None-clause-acts : goal.returns-in-None-clause-acts
returns-in-None-clause-acts c =
    let act : Act = Open c.args.scan.now in
    let trip : to_z w64 (of_z w64 c.args.now) ≡ c.args.now = search rules in
    subst (λ (t : ℤ). Acts (event_answer (base_of (held c.args.self.now)) [] t c.args.user.now act) (held c.args.self.now) t None c.args.user.now act c.judge_open.result (held c.judge_open.new.self)) trip c.judge_open.ensures.acts
