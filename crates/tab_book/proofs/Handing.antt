-- What is handed out beside a reply.
use Rattle.std.proofs.Common.{◌≡◌, refl}
use Rattle.tab_history.specs.declared.reply.Reply.{Reply}
use Rattle.tab_history.specs.declared.reply.Reply.TheVariants.{Opened, Begun}
use Rattle.tab_history.specs.Answers.{session_of, job_of}
use Rattle.tab_core.specs.OpenSession.{OpenSession}
use Rattle.tab_core.specs.Parts.{TabletMerge}
use Rattle.tab_book.specs.HandedOut.{held_of, session_in, job_in}

-- the session that was handed out is the reply's
pub session_held : (reply : Reply OpenSession TabletMerge) → session_in (held_of reply) ≡ session_of reply
session_held (Opened session) = refl
session_held (Begun job) = refl
session_held _ = refl

-- and so is the job
pub job_held : (reply : Reply OpenSession TabletMerge) → job_in (held_of reply) ≡ job_of reply
job_held (Opened session) = refl
job_held (Begun job) = refl
job_held _ = refl
