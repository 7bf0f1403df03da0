-- What is gathered entry by entry is what is to be kept of all of them.
use Rattle.std.proofs.Common.{◌≡◌, ℤ, Bool, true, false, cond, List, [], ◌∷◌, ◌++◌, refl, sym, ap, ◌∙◌, append_assoc}
use Rattle.std.specs.Prelude.{reverse}
use Rattle.std.proofs.lemmas.Grind.{flat_map-append}
use Rattle.std.proofs.lemmas.List.{reverse-append}
use Rattle.tab_history.specs.Answers.{Told}
use Rattle.tab_history.specs.Histories.{Entry, World, clock_of, clock_at, clock_after}
use Rattle.tab_history.specs.declared.event.Event.{Event as TheEvent}
use Rattle.tab_history.specs.declared.event.Step.{Step}
use Rattle.tab_history.specs.declared.event.Step.TheVariants.{Event}
use Rattle.tab_history.specs.declared.reply.Reply.TheVariants.{Refused}
use Rattle.tab_lasting.specs.Lasting.{leaves_trace, lasting_of, lasting}
use Rattle.tab_journal.specs.Spelling.{entry_bytes, entries_bytes}
use Rattle.tab_journal.specs.Stretches.{event_in, events_of, Stretch, begun, gathers, gathers_all, kept_events, GatheredIsLasting}

events-append : (xs ys : List Entry) → events_of (xs ++ ys) ≡ events_of xs ++ events_of ys
events-append [] ys = refl
events-append (e ∷ xs) ys = ap (λ (z : List TheEvent). event_in e.step ++ z) (events-append xs ys) ∙ sym (append_assoc (event_in e.step) (events_of xs) (events_of ys))

-- of one entry there is one event at most
same_back : (x : Entry) (b : Bool) → reverse (events_of (cond b (x ∷ []) [])) ≡ events_of (cond b (x ∷ []) [])
same_back x true = go x.step
  where
    go : (s : Step) → reverse (event_in s ++ []) ≡ event_in s ++ []
    go (Event e) = refl
    go s = refl
same_back x false = refl

one_back : (now : ℤ) (step : Step) (reply : Told) → reverse (events_of (lasting_of now step reply)) ≡ events_of (lasting_of now step reply)
one_back now (Event e) (Refused r) = refl
one_back now (Event e) reply = same_back (record { step = Event (record e { moment = now }); reply = reply }) (leaves_trace e.act)
one_back now step reply = refl

abbrev kept : ℤ → List TheEvent → Stretch
kept clock es = record { clock = clock; entries = es; bytes = entries_bytes es }

module _ (w : World) where
  events_more : (e : Entry) (es : List Entry) (ls : List Entry) → reverse (events_of ls) ≡ events_of ls
      → reverse (events_of es) ++ events_of ls ≡ reverse (events_of (ls ++ es))
  events_more e es ls one =
      ap (λ (z : List TheEvent). reverse (events_of es) ++ z) (sym one)
      ∙ sym (reverse-append (events_of ls) (events_of es))
      ∙ ap reverse (sym (events-append ls es))

  gathered : (es : List Entry) → gathers_all (begun w.clock) es ≡ kept (clock_of w es) (kept_events w es)
  unfolding clock_of lasting
  gathered [] = refl
  gathered (e ∷ es) =
      let more : List TheEvent = events_of (lasting_of (clock_at (clock_of w es) e.step) e.step e.reply) in
      let all = events_more e (lasting w es) (lasting_of (clock_at (clock_of w es) e.step) e.step e.reply) (one_back (clock_at (clock_of w es) e.step) e.step e.reply) in
      let bytes : entries_bytes (kept_events w es) ++ entries_bytes more ≡ entries_bytes (kept_events w (e ∷ es)) =
      sym (flat_map-append entry_bytes (kept_events w es) more) ∙ ap entries_bytes all in
      ap (λ (s : Stretch). gathers s e.step e.reply) (gathered es)
      ∙ (λ i. record { clock = clock_after e.step e.reply (clock_of w es); entries = all i; bytes = bytes i })

pub gathered_is_lasting : GatheredIsLasting
gathered_is_lasting w es = gathered w es
