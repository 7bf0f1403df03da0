use Rattle.std.proofs.Common.{◌≡◌, List, subst, sym, rules}
use Rattle.tab_key.specs.declared.range.Bounds.{Bounds}
use Rattle.tab_history.specs.declared.event.Step.{Step}
use Rattle.tab_core.specs.Sessions.{ManyIn}
use Rattle.tab_core.specs.Owners.{RunsOn}
use Rattle.tab_core.proofs.Runs.{runs_next, runs_many, runs_close, runs_merge}
use Rattle.tab_core.proofs.running.run_step.Goals as goal

pub returns-in-Next : goal.returns-in-Next
returns-in-Next c =
    let P : Step → Type 0 = λ step. RunsOn c.args.core.now c.args.sessions.now c.args.jobs.now step c.next.result c.args.core.now c.next.new.self c.args.jobs.now in
    subst P (sym c.in-Next.is) (runs_next c.args.core.now c.args.sessions.now c.next.new.self c.args.jobs.now _ _ _ c.next.result c.next.ensures)

pub returns-in-Many : goal.returns-in-Many
returns-in-Many c =
    let P : Step → Type 0 = λ step. RunsOn c.args.core.now c.args.sessions.now c.args.jobs.now step c.many.result c.args.core.now c.many.new.self c.args.jobs.now in
    let lent : c.as_slice.result.now ≡ c.in-Many.ranges = search rules in
    let answers = subst (λ (rs : List Bounds). ManyIn c.args.sessions.now c.in-Many.user c.in-Many.slot rs c.many.result) lent c.many.ensures.answers in
    subst P (sym c.in-Many.is) (runs_many c.args.core.now c.args.sessions.now c.many.new.self c.args.jobs.now c.in-Many.user c.in-Many.slot c.in-Many.ranges c.many.result answers c.many.ensures.same)

pub returns-in-Close : goal.returns-in-Close
returns-in-Close c =
    let P : Step → Type 0 = λ step. RunsOn c.args.core.now c.args.sessions.now c.args.jobs.now step c.close.result c.args.core.now c.close.new.self c.args.jobs.now in
    subst P (sym c.in-Close.is) (runs_close c.args.core.now c.args.sessions.now c.close.new.self c.args.jobs.now _ _ c.close.result c.close.ensures)

pub returns-in-Merge : goal.returns-in-Merge
returns-in-Merge c =
    let P : Step → Type 0 = λ step. RunsOn c.args.core.now c.args.sessions.now c.args.jobs.now step c.merge.result c.args.core.now c.args.sessions.now c.merge.new.self in
    subst P (sym c.in-Merge.is) (runs_merge c.args.core.now c.args.sessions.now c.args.jobs.now c.merge.new.self _ c.merge.result c.merge.ensures)
