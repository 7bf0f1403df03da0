-- What outlives a crash makes all changes of its history.
use Rattle.std.proofs.Common.{◌≡◌, ◌⊎◌, inl, inr, ℕ, List, [], ◌∷◌, ◌++◌, true, false, cond, refl, sym, ◌∙◌, ap, subst, arith}
use Rattle.std.specs.Prelude.{ℤ, int_le, int_lt}
use Rattle.std.specs.Int.{int_max}
use Rattle.std.proofs.lemmas.Int.{ints}
use mathlib.Core.Bool.{true≢false}
use Rattle.tab_cells.proofs.Lists.{by_bool}
use Rattle.tab_history.specs.declared.event.Act.{Act}
use Rattle.tab_history.specs.declared.event.Act.TheVariants.{Open, AddSplit, Rights, Status, Flush, Compact, SplitBySize, Splits, Save, Rotate, Load, Begin, Install}
use Rattle.tab_history.specs.declared.event.Event.{Event as TheEvent}
use Rattle.tab_history.specs.declared.event.Step.{Step}
use Rattle.tab_history.specs.declared.event.Step.TheVariants.{Event, Next, Many, Close, Merge}
use Rattle.tab_history.specs.declared.reply.Refusal.TheVariants.{NoMemory}
use Rattle.tab_history.specs.declared.reply.Reply.TheVariants.{Refused}
use Rattle.tab_history.specs.Answers.{Told, answer, IsReply}
use Rattle.tab_history.specs.Changes.{changes_of}
use Rattle.tab_history.specs.Histories.{Entry, World, clock_of, clock_at, journal, moves_of, jobs_of}
use Rattle.tab_history.specs.Legal.{answer_at, IsAnswer, LacksMemory, LegalAlone}
use Rattle.tab_lasting.specs.Lasting.{leaves_trace, lasting_of, lasting, LastingIsAll}
use Rattle.tab_history.proofs.GoOn.{le_self, max_left, clock_grows}

pub le_trans : (a b c : ℤ) → int_le a b ≡ true → int_le b c ≡ true → int_le a c ≡ true
le_trans a b c p q = grind (arith, ints)

not_less : (a b : ℤ) → int_le a b ≡ true → int_lt b a ≡ false
not_less a b p = grind (arith, ints)

pub max_above : (c m : ℤ) → int_le c m ≡ true → int_max c m ≡ m
max_above c m p = rw (not_less c m p) refl

-- what leaves nothing changes nothing
traceless : (now : ℤ) (user : List ℕ) (act : Act) → leaves_trace act ≡ false → changes_of now user act ≡ []
traceless now user (Open scan) e = refl
traceless now user (AddSplit t row) e = refl
traceless now user (Rights t) e = refl
traceless now user (Status t) e = refl
traceless now user (Flush t) e = refl
traceless now user (Compact t extent) e = refl
traceless now user (SplitBySize t row limit) e = refl
traceless now user (Splits t) e = refl
traceless now user Save e = refl
traceless now user Load e = refl
traceless now user Rotate e = refl
traceless now user (Begin t row kind) e = refl
traceless now user (Install t given) e = refl
traceless now user _ e = absurd (true≢false e)

-- the same changes, no later a clock, and legal where the history is
record Alike (w : World) (es ls : List Entry) : Type 0 where
  changes : journal w ls ≡ journal w es
  clock : int_le (clock_of w ls) (clock_of w es) ≡ true
  legal : LegalAlone w es → LegalAlone w ls

module _ (w : World) (es ls : List Entry) (a : Alike w es ls) where
  abbrev entry : TheEvent → Told → Entry
  entry ev r = record { step = Event ev; reply = r }

  abbrev now : TheEvent → ℤ
  now ev = int_max (clock_of w es) ev.moment

  abbrev then : TheEvent → TheEvent
  then ev = record ev { moment = now ev }

  met : (ev : TheEvent) → int_max (clock_of w ls) (now ev) ≡ now ev
  met ev = max_above (clock_of w ls) (now ev) (le_trans (clock_of w ls) (clock_of w es) (now ev) a.clock (max_left (clock_of w es) ev.moment))

  same : (ev : TheEvent) → answer_at w ls [] (Event (then ev)) ≡ answer_at w es [] (Event ev)
  unfolding answer
  same ev = λ i. answer w.base (a.changes i) (moves_of w ev.user []) (jobs_of []) (met ev i) (Event (then ev))

  -- where nothing is kept of the entry
  passed : (step : Step) (r : Told) → journal w (record { step = step; reply = r } ∷ es) ≡ journal w es → Alike w (record { step = step; reply = r } ∷ es) ls
  unfolding clock_of
  passed step r e = record {
    changes = a.changes ∙ sym e;
    clock = le_trans (clock_of w ls) (clock_of w es) _ a.clock (clock_grows step r (clock_of w es));
    legal = λ l. a.legal l.0;
  }

  -- where it is kept
  kept : (ev : TheEvent) (r : Told) → journal w (entry (then ev) r ∷ ls) ≡ changes_of (int_max (clock_of w ls) (now ev)) ev.user ev.act ++ journal w ls → journal w (entry ev r ∷ es) ≡ changes_of (now ev) ev.user ev.act ++ journal w es
      → clock_of w (entry (then ev) r ∷ ls) ≡ int_max (clock_of w ls) (now ev) → clock_of w (entry ev r ∷ es) ≡ now ev → (r ≡ Refused NoMemory → ⊥)
      → Alike w (entry ev r ∷ es) (entry (then ev) r ∷ ls)
  kept ev r j k c d some = record {
    changes = j ∙ (λ i. changes_of (met ev i) ev.user ev.act ++ a.changes i) ∙ sym k;
    clock = subst (λ x. int_le x (clock_of w (entry ev r ∷ es)) ≡ true) (sym (c ∙ met ev)) (subst (λ x. int_le (now ev) x ≡ true) (sym d) (le_self (now ev)));
    legal = λ l. (a.legal l.0, answers l.1);
  }
    where
      answers : IsAnswer w es [] (Event ev) r ⊎ LacksMemory (Event ev) r → IsAnswer w ls [] (Event (then ev)) r ⊎ LacksMemory (Event (then ev)) r
      answers (inl h) = inl (subst (λ x. IsReply (Event ev) x r) (sym (same ev)) h)
      answers (inr e) = absurd (some e.1)

  event_more : (ev : TheEvent) (r : Told) → Alike w (entry ev r ∷ es) (lasting_of (now ev) (Event ev) r ++ ls)
  unfolding journal clock_of
  event_more ev (Refused x) = passed (Event ev) (Refused x) refl
  event_more ev r = by_bool (leaves_trace ev.act)
      (λ e. subst (λ v. Alike w (entry ev r ∷ es) (cond v (entry (then ev) r ∷ []) [] ++ ls)) (sym e) (kept ev r refl refl refl refl (λ z. absurd (cc))))
      (λ e. subst (λ v. Alike w (entry ev r ∷ es) (cond v (entry (then ev) r ∷ []) [] ++ ls)) (sym e) (passed (Event ev) r (ap (λ xs. xs ++ journal w es) (traceless (now ev) ev.user ev.act e))))

  entry_more : (step : Step) (r : Told) → Alike w (record { step = step; reply = r } ∷ es) (lasting_of (clock_at (clock_of w es) step) step r ++ ls)
  unfolding journal
  entry_more (Event ev) r = event_more ev r
  entry_more (Next user slot n) r = passed (Next user slot n) r refl
  entry_more (Many user slot ranges) r = passed (Many user slot ranges) r refl
  entry_more (Close user slot) r = passed (Close user slot) r refl
  entry_more (Merge slot) r = passed (Merge slot) r refl

alike : (w : World) (es : List Entry) → Alike w es (lasting w es)
unfolding lasting clock_of
alike w [] = record { changes = refl; clock = le_self w.clock; legal = λ l. l }
alike w (e ∷ es) = entry_more w es (lasting w es) (alike w es) e.step e.reply

pub lasting_is_all : LastingIsAll
lasting_is_all w es = let a = alike w es in record { changes = a.changes; clock = a.clock; legal = a.legal }
