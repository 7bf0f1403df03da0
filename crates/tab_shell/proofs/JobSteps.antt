-- How a script's core and its jobs go on exactly.
use Rattle.std.proofs.Common.{◌≡◌, List, [], ◌∷◌, ◌++◌, Option, None, refl, sym, subst}
use Rattle.tab_core.specs.OpenSession.{OpenSession}
use Rattle.tab_history.specs.declared.event.Scan.{Scan}
use Rattle.tab_history.specs.declared.event.Act.TheVariants.{Open}
use Rattle.tab_history.specs.declared.event.Event.{Event}
use Rattle.tab_history.specs.declared.reply.Reply.{Reply}
use Rattle.tab_history.specs.Jobs.{JobMove}
use Rattle.tab_history.specs.Answers.{Told, told_of, job_of, job_moves_by}
use Rattle.tab_history.specs.Histories.{Entry, jobs_of}
use Rattle.tab_core.specs.Parts.{TabletMerge}
use Rattle.tab_core.specs.Stores.{CoreContents}
use Rattle.tab_core.specs.Stepping.{StepsExactly, StepsWith}
use Rattle.tab_core.specs.Chains.{Running}
use Rattle.tab_core.specs.JobSlots.{JobsAre, GoesExactly}
use Rattle.tab_core.specs.declared.job_slots.JobSlot.{JobSlot}
use Rattle.tab_core.proofs.Runs.{open_exactly}
use Rattle.tab_core.proofs.JobLemmas.{no_job, alone_exact}
use Rattle.tab_shell.specs.Scripts.{ScriptState, event_by, entry}

-- ---- chains
-- a core, and the merges that were begun
abbrev pub run_of : CoreContents → List TabletMerge → Running
run_of core merges = record { held = core; begun = merges }

-- nothing was done
pub goes_nowhere : (core : CoreContents) (jobs : List JobSlot) → GoesExactly core jobs [] core jobs
goes_nowhere core jobs merges holds = (merges, holds, refl)

-- the core went on by an Open of the script, which was told this
abbrev pub OpensExactly : ScriptState → CoreContents → Scan → Told → Type 0
OpensExactly s core scan told = GoesExactly s.core s.jobs (entry (event_by s.asker (Open scan)) told ∷ []) core s.jobs

-- it begins no job
pub opens_exactly : (s : ScriptState) (core : CoreContents) (scan : Scan) (r : Reply OpenSession TabletMerge) → StepsWith s.core None (event_by s.asker (Open scan)) r core → OpensExactly s core scan (told_of r)
opens_exactly s core scan r steps =
    let event : Event = event_by s.asker (Open scan) in
    let exact : StepsExactly s.core None event (told_of r) (job_of r) core = open_exactly s.core core None event r refl steps in
    let none : job_of r ≡ None = no_job s.core core None event (told_of r) (job_of r) refl exact in
    alone_exact s.core core s.jobs event (told_of r) tt (subst (λ (j : Option TabletMerge). StepsExactly s.core None event (told_of r) j core) none exact)

-- ---- what leaves all jobs as they are
pub jobs_stay : (jobs : List JobSlot) (e : Entry) (h : List Entry) → job_moves_by e.step e.reply ≡ [] → JobsAre (jobs_of h) jobs → JobsAre (jobs_of (e ∷ h)) jobs
unfolding jobs_of
jobs_stay jobs e h none are = subst (λ (ms : List JobMove). JobsAre (ms ++ jobs_of h) jobs) (sym none) are
