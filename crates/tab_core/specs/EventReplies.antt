-- For proofs. What an event is told, as it is copied.
use Rattle.std.specs.Prelude.{Bool, true, false}
use Rattle.tab_history.specs.Answers.{Told, told_opened, told_begun}
use Rattle.tab_history.specs.declared.reply.Refusal.{Refusal}
use Rattle.tab_history.specs.declared.reply.Refusal.TheVariants.{BadAuthorizations, ConstraintViolation}
use Rattle.tab_history.specs.declared.reply.Reply.TheVariants.{Done, Refused, Opened, Batch, Ranges, Rights, Counted, Rows, Begun, Nothing}
use Rattle.tab_core.specs.declared.event_reply.EventReply.{EventReply}
use Rattle.tab_core.specs.declared.event_reply.EventReply.TheVariants as event

-- what is told
abbrev pub told_in : EventReply → Told
told_in event.Done = Done
told_in (event.Refused r) = Refused r
told_in event.Opened = told_opened
told_in (event.Rights r) = Rights r
told_in (event.Counted counts) = Counted counts
told_in (event.Rows rows) = Rows rows
told_in event.Begun = told_begun
told_in event.Nothing = Nothing

-- whether a copy of the refusal takes memory
abbrev pub is_long_refusal : Refusal → Bool
is_long_refusal (BadAuthorizations term) = true
is_long_refusal (ConstraintViolation found) = true
is_long_refusal _ = false

-- whether a copy of what is told takes memory; cells of a session aren't told of an event, and aren't copied
abbrev pub is_long : Told → Bool
is_long (Refused r) = is_long_refusal r
is_long (Batch cells) = true
is_long (Ranges ranges) = true
is_long (Rights r) = true
is_long (Rows rows) = true
is_long reply = false
