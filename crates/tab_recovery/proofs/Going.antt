-- One entry done again, and one after the other.
use Rattle.std.proofs.Common.{◌≡◌, List, [], ◌∷◌, ◌++◌, refl, sym, subst, append_assoc}
use Rattle.std.specs.Prelude.{Result}
use Rattle.tab_session.specs.OpenSession.{OpenSession}
use Rattle.tab_history.specs.Answers.{Told, told_of}
use Rattle.tab_history.specs.Histories.{Entry, world_of}
use Rattle.tab_history.specs.declared.event.Event.{Event}
use Rattle.tab_history.specs.declared.reply.Refusal.TheVariants as refusal
use Rattle.tab_history.specs.declared.reply.Reply.{Reply}
use Rattle.tab_history.specs.declared.reply.Reply.TheVariants.{Done, Refused}
use Rattle.tab_store.specs.Parts.{TabletMerge}
use Rattle.tab_core.specs.Stores.{CoreContents, base_of}
use Rattle.tab_core.specs.Recording.{RefinesHistory, IsLegalFrom, entry_of}
use Rattle.tab_core.specs.Stepping.{Steps}
use Rattle.tab_recovery.specs.declared.fault.ReplayFault.{ReplayFault}
use Rattle.tab_recovery.specs.Recovering.{GoesOn}
use Rattle.tab_recovery.specs.Redoing.{judged, Redoes}

pub goes_nowhere : (core : CoreContents) → GoesOn core [] core
goes_nowhere core = record { refines = λ base h r. r; legal = λ base h r l. l }

pub goes_further : (old mid new : CoreContents) (first then : List Entry) → GoesOn old first mid → GoesOn mid then new → GoesOn old (then ++ first) new
goes_further old mid new first then a b = record {
  refines = λ base h r. subst (λ (z : List Entry). RefinesHistory new base z) (sym (append_assoc then first h)) (b.refines base (first ++ h) (a.refines base h r));
  legal = λ base h r l. subst (λ (z : List Entry). IsLegalFrom base z) (sym (append_assoc then first h)) (b.legal base (first ++ h) (a.refines base h r) (a.legal base h r l));
}

goes_step : (old new : CoreContents) (e : Event) (reply : Reply OpenSession TabletMerge) → Steps (base_of old) e reply (base_of new) → GoesOn old (entry_of e (told_of reply) ∷ []) new
unfolding RefinesHistory IsLegalFrom
goes_step old new e reply s = record { refines = λ base h r. s.refines (world_of base) h r; legal = λ base h r l. s.legal (world_of base) h r l }

lacked : (old new : CoreContents) (e : Event) (reply : Reply OpenSession TabletMerge) → Steps (base_of old) e reply (base_of new) → told_of reply ≡ Refused refusal.NoMemory → GoesOn old [] new
unfolding RefinesHistory
lacked old new e reply s is = record { refines = λ base h r. s.unchanged is (world_of base) h r; legal = λ base h r l. l }

by_told : (old new : CoreContents) (e : Event) (reply : Reply OpenSession TabletMerge) → Steps (base_of old) e reply (base_of new) → (t : Told) → told_of reply ≡ t → Redoes old e new (judged t)
by_told old new e reply s Done is = subst (λ (t : Told). GoesOn old (entry_of e t ∷ []) new) is (goes_step old new e reply s)
by_told old new e reply s (Refused refusal.NoMemory) is = lacked old new e reply s is
by_told old new e reply s (Refused r) is = (Refused r, (λ same. absurd cc), subst (λ (t : Told). GoesOn old (entry_of e t ∷ []) new) is (goes_step old new e reply s))
by_told old new e reply s t is = (t, (λ same. absurd cc), subst (λ (t : Told). GoesOn old (entry_of e t ∷ []) new) is (goes_step old new e reply s))

pub redoes : (old new : CoreContents) (e : Event) (reply : Reply OpenSession TabletMerge) (r : Result (Unit {0}) ReplayFault) → Steps (base_of old) e reply (base_of new) → r ≡ judged (told_of reply) → Redoes old e new r
redoes old new e reply r s is = subst (λ (z : Result (Unit {0}) ReplayFault). Redoes old e new z) (sym is) (by_told old new e reply s (told_of reply) refl)
