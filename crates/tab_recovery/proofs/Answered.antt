-- A core that did the kept entries again answers as the lost one.
use Rattle.std.proofs.Common.{◌≡◌, ℤ, Bool, true, false, cond, List, [], ◌∷◌, ◌++◌, refl, sym, ap, subst, ◌∙◌, append-nil}
use Rattle.std.specs.Prelude.{map}
use Rattle.std.specs.List.{AllByRecursion}
use Rattle.std.proofs.lemmas.List.{reverse-reverse}
use Rattle.tab_history.specs.Answers.{Told, changes_by}
use Rattle.tab_history.specs.Changes.{Change}
use Rattle.tab_history.specs.Histories.{Entry, World, world_of, world_after, clock_of, clock_at, clock_after, journal}
use Rattle.tab_history.specs.Refinement.{Refines}
use Rattle.tab_history.specs.declared.event.Event.{Event as TheEvent}
use Rattle.tab_history.specs.declared.event.Step.{Step}
use Rattle.tab_history.specs.declared.event.Step.TheVariants.{Event}
use Rattle.tab_history.specs.declared.reply.Reply.TheVariants.{Done, Refused}
use Rattle.tab_lasting.specs.Lasting.{leaves_trace, lasting_of, lasting}
use Rattle.tab_lasting.proofs.Recovered.{recovered_answers_as_lost}
use Rattle.tab_core.specs.Stores.{base_of}
use Rattle.tab_core.specs.Recording.{RefinesHistory, entry_of}
use Rattle.tab_journal.specs.Stretches.{event_in, events_of, is_refused, kept_events}
use Rattle.tab_journal.proofs.Entries.{in_all}
use Rattle.tab_recovery.specs.Answering.{RecoveredCoreAnswersAsLost}
use Rattle.tab_recovery.specs.Recovering.{all_done}

-- an event that wasn't refused
abbrev IsDone : Entry → Type 0
IsDone x = (e : TheEvent) × (x.step ≡ Event e) × (is_refused x.reply ≡ false)

all_joined : (xs ys : List Entry) → AllByRecursion IsDone xs → AllByRecursion IsDone ys → AllByRecursion IsDone (xs ++ ys)
all_joined [] ys p q = q
all_joined (x ∷ xs) ys p q = (p.0, all_joined xs ys p.1 q)

by_trace : (x : Entry) (b : Bool) → IsDone x → AllByRecursion IsDone (cond b (x ∷ []) [])
by_trace x true is = (is, tt)
by_trace x false is = tt

one_done : (now : ℤ) (step : Step) (reply : Told) → AllByRecursion IsDone (lasting_of now step reply)
one_done now (Event e) (Refused r) = tt
one_done now (Event e) reply = by_trace (record { step = Event (record e { moment = now }); reply = reply }) (leaves_trace e.act) (record e { moment = now }, refl, refl)
one_done now step reply = tt

lasting_done : (w : World) (es : List Entry) → AllByRecursion IsDone (lasting w es)
unfolding lasting
lasting_done w [] = tt
lasting_done w (e ∷ es) = all_joined (lasting_of (clock_at (clock_of w es) e.step) e.step e.reply) (lasting w es) (one_done (clock_at (clock_of w es) e.step) e.step e.reply) (lasting_done w es)

-- ---- what was answered to an event that was done changes nothing
abbrev as_done : TheEvent → Entry
as_done e = entry_of e Done

same_changes : (now : ℤ) (e : TheEvent) (reply : Told) → is_refused reply ≡ false → changes_by now (Event e) Done ≡ changes_by now (Event e) reply
same_changes now e (Refused r) kept = absurd cc
same_changes now e reply kept = refl

same_clock : (clock : ℤ) (e : TheEvent) (reply : Told) → is_refused reply ≡ false → clock_after (Event e) Done clock ≡ clock_after (Event e) reply clock
same_clock clock e (Refused r) kept = absurd cc
same_clock clock e reply kept = refl

-- the changes and the clock that some entries leave
pub record SameAfter (w : World) (xs ys : List Entry) : Type 0 where
  changes : journal w xs ≡ journal w ys
  clock : clock_of w xs ≡ clock_of w ys

module _ (w : World) where
  one_again : (xs : List Entry) (reply : Told) (e : TheEvent) → is_refused reply ≡ false → SameAfter w (map as_done (events_of xs)) xs
      → SameAfter w (as_done e ∷ map as_done (events_of xs)) (record { step = Event e; reply = reply } ∷ xs)
  unfolding journal clock_of
  one_again xs reply e kept later = record {
    changes = (λ i. changes_by (clock_at (later.clock i) (Event e)) (Event e) Done ++ later.changes i)
        ∙ ap (λ (z : List Change). z ++ journal w xs) (same_changes (clock_at (clock_of w xs) (Event e)) e reply kept);
    clock = ap (clock_after (Event e) Done) later.clock ∙ same_clock (clock_of w xs) e reply kept;
  }

  done_again : (ls : List Entry) → AllByRecursion IsDone ls → SameAfter w (map as_done (events_of ls)) ls
  done_again [] is = record { changes = refl; clock = refl }
  done_again (x ∷ xs) is =
      subst (λ (s : Step). SameAfter w (map as_done (event_in s ++ events_of xs)) (record { step = s; reply = x.reply } ∷ xs)) (sym is.0.1) (one_again xs x.reply is.0.0 is.0.2 (done_again xs is.1))

  same_world : (es : List Entry) → world_after w (all_done (kept_events w es)) ≡ world_after w (lasting w es)
  same_world es =
      let back : all_done (kept_events w es) ≡ map as_done (events_of (lasting w es)) = ap (map as_done) (reverse-reverse (events_of (lasting w es))) in
      let same = done_again (lasting w es) (lasting_done w es) in
      ap (world_after w) back ∙ (λ i. record { base = w.base; changes = same.changes i; clock = same.clock i })

pub recovered_core_answers_as_lost : RecoveredCoreAnswersAsLost
unfolding RefinesHistory
recovered_core_answers_as_lost base es lost loaded recovered body count is_lost is_loaded are again =
    let w : World = world_of base in
    let read : again.0 ≡ kept_events w es = in_all body again.0 (kept_events w es) again.1 are in
    let done : Refines (world_of (base_of recovered)) (world_after w (all_done again.0)) =
    subst (λ (z : List Entry). Refines (world_of (base_of recovered)) (world_after w z)) (append-nil (all_done again.0)) (again.3.refines base [] is_loaded) in
    let kept : Refines (world_of (base_of recovered)) (world_after w (lasting w es)) =
    subst (λ (z : World). Refines (world_of (base_of recovered)) z) (ap (λ (z : List TheEvent). world_after w (all_done z)) read ∙ same_world w es) done in
    λ e reply moves above later. recovered_answers_as_lost w es (world_of (base_of lost)) (world_of (base_of recovered)) is_lost kept e reply moves above later
