use Rattle.std.proofs.Common.{◌≡◌, ℤ, false, sym, subst, rules, to_z, of_z, w64}
use Rattle.tab_history.specs.Answers.{is_open}
use Rattle.tab_history.specs.declared.event.Act.TheVariants.{Open}
use Rattle.tab_history.specs.declared.event.Event.{Event}
use Rattle.tab_history.specs.declared.event.Step.TheVariants.{Event as IsEvent}
use Rattle.tab_core.specs.JobSlots.{StepsIn}
use Rattle.tab_core.specs.Owners.{RunsOn}
use Rattle.tab_core.specs.Stepping.{asked_at}
use Rattle.tab_core.proofs.Runs.{runs_event}
use Rattle.tab_core.proofs.running.run_event.Goals as goal

pub returns-in-Open : goal.returns-in-Open
returns-in-Open c =
    let trip : to_z w64 (of_z w64 c.args.event.now.moment) ≡ c.args.event.now.moment = search rules in
    let is : asked_at c.args.event.now.user (to_z w64 (of_z w64 c.args.event.now.moment)) (Open c.in-Open.scan) ≡ c.args.event.now = λ i. asked_at c.args.event.now.user (trip i) (sym c.in-Open.is i) in
    subst (λ (e : Event). RunsOn c.args.core.now c.args.sessions.now c.args.jobs.now (IsEvent e) c.run_open.result c.run_open.new.core c.run_open.new.sessions c.args.jobs.now) is (c.run_open.ensures c.args.jobs.now)

pub returns-in_default : goal.returns-in_default
returns-in_default c =
    let shut : is_open c.args.event.now.act ≡ false = search rules in
    let trip : to_z w64 (of_z w64 c.args.event.now.moment) ≡ c.args.event.now.moment = search rules in
    let steps = subst (λ (m : ℤ). StepsIn c.args.core.now c.args.jobs.now (asked_at c.args.event.now.user m c.args.event.now.act) c.step.result c.step.new.core c.step.new.self) trip c.step.ensures.steps in
    runs_event c.args.core.now c.step.new.core c.args.sessions.now c.args.jobs.now c.step.new.self c.args.event.now c.step.result shut steps
