-- What is kept of an entry hangs on how its event ended alone.
use Rattle.std.proofs.Common.{◌≡◌, Bool, true, false, cond, List, [], ◌∷◌, refl, ap}
use Rattle.std.specs.Int.{int_max}
use Rattle.tab_key.specs.declared.limited_part.LimitedPart.TheVariants.{Sessions}
use Rattle.tab_history.specs.declared.event.Event.{Event}
use Rattle.tab_history.specs.declared.event.Step.TheVariants.{Event as IsEvent}
use Rattle.tab_history.specs.declared.reply.Refusal.TheVariants.{NoMemory, TooLarge, NoSession, NoJob}
use Rattle.tab_history.specs.declared.reply.Reply.TheVariants.{Refused}
use Rattle.tab_lasting.specs.Lasting.{leaves_trace}
use Rattle.tab_journal.specs.Stretches.{events_of, kept_behind}
use Rattle.tab_journal.specs.Outcomes.{OutcomesSuffice}

-- the events of what is kept, or of nothing
events_by : (b : Bool) (e : Event) (reply : _) → events_of (cond b (record { step = IsEvent e; reply = reply } ∷ []) []) ≡ cond b (e ∷ []) []
events_by true e reply = refl
events_by false e reply = refl

pub outcomes_suffice : OutcomesSuffice
outcomes_suffice s e (Refused NoMemory) = refl
outcomes_suffice s e (Refused (TooLarge Sessions)) = refl
outcomes_suffice s e (Refused (NoSession slot)) = refl
outcomes_suffice s e (Refused (NoJob slot)) = refl
outcomes_suffice s e (Refused r) = refl
outcomes_suffice s e reply =
    let met = int_max s.clock e.moment in
    ap (λ (es : List Event). kept_behind s met es) (events_by (leaves_trace e.act) (record e { moment = met }) reply)
