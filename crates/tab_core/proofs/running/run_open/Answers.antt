use Rattle.std.proofs.Common.{◌≡◌, ℤ, List, Option, Some, MutBor, OnSome, ap, refl, subst, rules, to_z, of_z, w64}
use Rattle.tab_cells.specs.SessionState.{SessionState}
use Rattle.tab_history.specs.declared.event.Act.TheVariants.{Open}
use Rattle.tab_history.specs.declared.event.Event.{Event}
use Rattle.tab_core.specs.declared.sessions.UserSessions.{UserSessions}
use Rattle.tab_core.specs.Sessions.{Keeping, kept_of, KeepsFor}
use Rattle.tab_core.specs.Owners.{OpensIn}
use Rattle.tab_core.specs.Stepping.{asked_at}
use Rattle.tab_core.proofs.Runs.{runs_nowhere, runs_open}
use Rattle.tab_core.proofs.running.run_open.Goals as goal

pub returns-in-None : goal.returns-in-None
returns-in-None c jobs =
    let event : Event = asked_at c.args.user.now c.args.moment (Open c.args.scan.now) in
    runs_nowhere c.args.core.now c.args.sessions.now c.kept_for.follows.lender-at-none jobs event refl (λ u. ap (λ (k : UserSessions). k.numbered) (c.kept_for.follows.holds-at-none u))

pub returns-in-Some : goal.returns-in-Some
returns-in-Some c jobs =
    let old : Keeping = c.args.sessions.now in
    let user = c.args.user.now in
    let event : Event = asked_at user c.args.moment (Open c.args.scan.now) in
    let was : UserSessions = c.in-Some.kept.now in
    let slots : List (Option SessionState) = c.open.new.self in
    let now : UserSessions = record { numbered = slots; scanned = was.scanned } in
    let is : was ≡ kept_of old user = search rules in
    let keeps = subst (λ (r : Option (MutBor UserSessions)). OnSome r (KeepsFor user now old (c.kept_for.follows.lender now))) c.in-Some.is (c.kept_for.follows.holds now) in
    let trip : to_z w64 (of_z w64 c.args.moment) ≡ c.args.moment = search rules in
    let opens = subst (λ (m : ℤ). OpensIn c.args.core.now was.numbered (asked_at user m (Open c.args.scan.now)) c.open.result c.open.new.core slots) trip c.open.ensures.opens in
    let own = subst (λ (k : UserSessions). OpensIn c.args.core.now k.numbered event c.open.result c.open.new.core slots) is opens in
    let rest = subst (λ (k : UserSessions). KeepsFor user (record k { numbered = slots }) old (c.kept_for.follows.lender now)) is keeps in
    runs_open c.args.core.now c.open.new.core old (c.kept_for.follows.lender now) jobs event c.open.result slots refl own rest
