-- A core that was made of the kept entries answers as the lost one.
use Rattle.std.proofs.Common.{◌≡◌, ◌⊎◌, inl, inr, List, [], ◌∷◌, ◌++◌, true, refl, sym, ◌∙◌, ap, subst}
use Rattle.std.specs.Prelude.{ℤ, int_le}
use Rattle.std.specs.Int.{int_max}
use Rattle.tab_history.specs.declared.event.Event.{Event as TheEvent}
use Rattle.tab_history.specs.declared.event.Step.{Step}
use Rattle.tab_history.specs.declared.event.Step.TheVariants.{Event}
use Rattle.tab_history.specs.Answers.{Told, answer, IsReply, changes_by}
use Rattle.tab_history.specs.Histories.{Entry, World, world_after, clock_after, clock_of, clock_at, journal, moves_of, jobs_of}
use Rattle.tab_history.specs.Legal.{answer_at, IsAnswer, LacksMemory, LegalAlone}
use Rattle.tab_history.proofs.GoOn.{events_down, events_up}
use Rattle.tab_lasting.specs.Lasting.{lasting}
use Rattle.tab_lasting.specs.Recovered.{MovesClock, RecoveredAnswersAsLost}
use Rattle.tab_lasting.proofs.Lasting.{le_trans, max_above, lasting_is_all}

-- ---- what later entries leave, counted from the start or from what the earlier ones left
same_clock : (w : World) (h es : List Entry) → clock_of (world_after w h) es ≡ clock_of w (es ++ h)
unfolding clock_of
same_clock w h [] = refl
same_clock w h (e ∷ es) = ap (clock_after e.step e.reply) (same_clock w h es)

same_journal : (w : World) (h es : List Entry) → journal (world_after w h) es ≡ journal w (es ++ h)
unfolding journal
same_journal w h [] = refl
same_journal w h (e ∷ es) = λ i. changes_by (clock_at (same_clock w h es i) e.step) e.step e.reply ++ same_journal w h es i

same_answer : (w : World) (h es : List Entry) (step : Step) → answer_at (world_after w h) es [] step ≡ answer_at w (es ++ h) [] step
unfolding moves_of
same_answer w h es step = λ i. answer w.base (same_journal w h es i) [] (jobs_of []) (clock_at (same_clock w h es i) step) step

parted : (w : World) (h es : List Entry) → LegalAlone w (es ++ h) → LegalAlone w h × LegalAlone (world_after w h) es
parted w h [] l = (l, tt)
parted w h (e ∷ es) l = let p = parted w h es l.0 in (p.0, (p.1, go l.1))
  where
    go : IsAnswer w (es ++ h) [] e.step e.reply ⊎ LacksMemory e.step e.reply → IsAnswer (world_after w h) es [] e.step e.reply ⊎ LacksMemory e.step e.reply
    go (inl a) = inl (subst (λ x. IsReply e.step x e.reply) (sym (same_answer w h es e.step)) a)
    go (inr lacks) = inr lacks

joined : (w : World) (h es : List Entry) → LegalAlone w h → LegalAlone (world_after w h) es → LegalAlone w (es ++ h)
joined w h [] legal later = legal
joined w h (e ∷ es) legal later = (joined w h es legal later.0, go later.1)
  where
    go : IsAnswer (world_after w h) es [] e.step e.reply ⊎ LacksMemory e.step e.reply → IsAnswer w (es ++ h) [] e.step e.reply ⊎ LacksMemory e.step e.reply
    go (inl a) = inl (subst (λ x. IsReply e.step x e.reply) (same_answer w h es e.step) a)
    go (inr lacks) = inr lacks

-- ---- two worlds of one base and the same changes, and an event at or above both clocks, which moved them
module _ (w : World) (other : ℤ) (ev : TheEvent) (r : Told) (here : int_le w.clock ev.moment ≡ true) (there : int_le other ev.moment ≡ true) (moved : MovesClock ev r) where
  abbrev first : List Entry
  first = record { step = Event ev; reply = r } ∷ []

  abbrev twin : World
  twin = record w { clock = other }

  met : int_max w.clock ev.moment ≡ int_max other ev.moment
  met = max_above w.clock ev.moment here ∙ sym (max_above other ev.moment there)

  one_world : world_after w first ≡ world_after twin first
  unfolding journal clock_of
  one_world = λ i. record { base = w.base; changes = changes_by (met i) (Event ev) r ++ w.changes; clock = (moved w.clock ∙ met ∙ sym (moved other)) i }

  begins : LegalAlone w first → LegalAlone twin first
  unfolding journal clock_of moves_of
  begins l = (tt, answers l.1)
    where
      answers : IsAnswer w [] [] (Event ev) r ⊎ LacksMemory (Event ev) r → IsAnswer twin [] [] (Event ev) r ⊎ LacksMemory (Event ev) r
      answers (inl a) = inl (subst (λ x. IsReply (Event ev) x r) (λ i. answer w.base w.changes [] (jobs_of []) (met i) (Event ev)) a)
      answers (inr a) = inr a

  -- the same events are legal from both
  as_the_lost : (es : List Entry) → LegalAlone w (es ++ first) → LegalAlone twin (es ++ first)
  as_the_lost es l = let p = parted w first es l in joined twin first es (begins p.0) (subst (λ v. LegalAlone v es) one_world p.1)

pub recovered_answers_as_lost : RecoveredAnswersAsLost
recovered_answers_as_lost w es lost recovered h k ev r moved above later = (forth, back)
  where
    over : int_le (clock_of w es) ev.moment ≡ true
    over = subst (λ c. int_le c ev.moment ≡ true) h.reads.clock above

    under : int_le (clock_of w (lasting w es)) ev.moment ≡ true
    under = le_trans (clock_of w (lasting w es)) (clock_of w es) ev.moment (lasting_is_all w es).clock over

    of_all : record (world_after w es) { clock = clock_of w (lasting w es) } ≡ world_after w (lasting w es)
    of_all = λ i. record { base = w.base; changes = sym (lasting_is_all w es).changes i; clock = clock_of w (lasting w es) }

    of_kept : record (world_after w (lasting w es)) { clock = clock_of w es } ≡ world_after w es
    of_kept = λ i. record { base = w.base; changes = (lasting_is_all w es).changes i; clock = clock_of w es }

    forth : LegalAlone lost (later ++ record { step = Event ev; reply = r } ∷ []) → LegalAlone recovered (later ++ record { step = Event ev; reply = r } ∷ [])
    forth l = (events_up recovered (world_after w (lasting w es)) k _ (subst (λ v. LegalAlone v (later ++ record { step = Event ev; reply = r } ∷ [])) of_all (as_the_lost (world_after w es) (clock_of w (lasting w es)) ev r over under moved later (events_down lost (world_after w es) h _ l).0))).0

    back : LegalAlone recovered (later ++ record { step = Event ev; reply = r } ∷ []) → LegalAlone lost (later ++ record { step = Event ev; reply = r } ∷ [])
    back l = (events_up lost (world_after w es) h _ (subst (λ v. LegalAlone v (later ++ record { step = Event ev; reply = r } ∷ [])) of_kept (as_the_lost (world_after w (lasting w es)) (clock_of w es) ev r under over moved later (events_down recovered (world_after w (lasting w es)) k _ l).0))).0
