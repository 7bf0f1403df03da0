-- For proofs. What an event hands out beside its reply.
use Rattle.std.specs.Prelude.{Option, Some, None}
use Rattle.std.specs.Option.{option_map}
use Rattle.tab_history.specs.Answers.{session_of, job_of}
use Rattle.tab_history.specs.declared.reply.Reply.{Reply}
use Rattle.tab_core.specs.OpenSession.{OpenSession}
use Rattle.tab_core.specs.Parts.{TabletMerge}
use Rattle.tab_book.specs.declared.held.Held.{Held}
use Rattle.tab_book.specs.declared.held.Held.TheVariants.{Session, Job}

-- the session, or the job where there is none
abbrev pub handed : Option OpenSession → Option TabletMerge → Option Held
handed (Some session) job = Some (Session session)
handed None job = option_map Job job

-- what goes with a reply
abbrev pub held_of : Reply OpenSession TabletMerge → Option Held
held_of reply = handed (session_of reply) (job_of reply)

-- ---- what was handed out, taken apart
abbrev pub session_in : Option Held → Option OpenSession
session_in None = None
session_in (Some (Session session)) = Some session
session_in (Some (Job job)) = None

abbrev pub job_in : Option Held → Option TabletMerge
job_in None = None
job_in (Some (Session session)) = None
job_in (Some (Job job)) = Some job
