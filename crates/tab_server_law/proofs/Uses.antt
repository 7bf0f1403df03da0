-- What the law says of two histories in which others do different things; and a law under a view that hides the clock, refuted.
use Rattle.std.proofs.Common.{◌≡◌, inl, inr, ℕ, pos, List, [], ◌∷◌, true, false, refl, sym, ◌∙◌, ap, Bool}
use mathlib.Core.Bool.{true≢false}
use Rattle.tab_key.specs.declared.limited_part.LimitedPart.TheVariants.{Numbers}
use Rattle.tab_history.specs.Bases.{Base, new_core}
use Rattle.tab_history.specs.Answers.{Told}
use Rattle.tab_history.specs.Histories.{Entry, world_of}
use Rattle.tab_history.specs.Legal.{LegalAlone, IsAmple, IsExhausted}
use Rattle.tab_history.specs.Refinement.{Refines}
use Rattle.tab_history.specs.ExampleWords.{bob}
use Rattle.tab_history.specs.declared.event.Step.{Step}
use Rattle.tab_history.specs.declared.reply.Refusal.TheVariants.{NoMemory, TooLarge}
use Rattle.tab_history.specs.declared.reply.Reply.TheVariants.{Refused}
use Rattle.tab_history.proofs.Chains.{new_core_is_sound, sound_refines_itself}
use Rattle.tab_noninterference.specs.Hearing.{heard}
use Rattle.tab_server_law.specs.ServerNoninterference.{NoninterferenceOver}
use Rattle.tab_server_law.specs.Examples.{everything, history, hears, beside, unseen, seen_alike, later, view_without_clock, alike_without_clock, stamp_of, stamps, others}
use Rattle.tab_server_law.proofs.Playing.{played_legal}

is_legal : (steps : List Step) → LegalAlone (world_of new_core) (history steps)
is_legal steps = played_legal (world_of new_core) [] steps tt

-- ---- where nothing ran out
is_plenty : Told → Bool
is_plenty (Refused NoMemory) = false
is_plenty (Refused (TooLarge Numbers)) = false
is_plenty reply = true

plenty : (reply : Told) → is_plenty reply ≡ true → IsExhausted reply → ⊥
unfolding is_plenty
plenty reply e (inl x) = true≢false (sym e ∙ ap is_plenty x)
plenty reply e (inr x) = true≢false (sym e ∙ ap is_plenty x)

AllPlenty : List Entry → Type 0
AllPlenty [] = Unit {0}
AllPlenty (e ∷ es) = AllPlenty es × (is_plenty e.reply ≡ true)

ample_of : (es : List Entry) → AllPlenty es → IsAmple es
unfolding AllPlenty
ample_of [] a = tt
ample_of (e ∷ es) a = (ample_of es a.0, plenty e.reply a.1)

ample_alone : IsAmple (history (beside []))
unfolding everything is_plenty AllPlenty
ample_alone = ample_of (history (beside [])) ((((((((tt, refl), refl), refl), refl), refl), refl), refl), refl)

ample_unseen : IsAmple (history (beside unseen))
unfolding everything is_plenty AllPlenty
ample_unseen = ample_of (history (beside unseen)) ((((((((((tt, refl), refl), refl), refl), refl), refl), refl), refl), refl), refl)

ample_later : IsAmple (history (beside later))
unfolding everything is_plenty AllPlenty
ample_later = ample_of (history (beside later)) (((((((((tt, refl), refl), refl), refl), refl), refl), refl), refl), refl)

-- ---- others write what bob may not read, and make a user
itself : Refines (world_of new_core) (world_of new_core)
itself = sound_refines_itself (world_of new_core) new_core_is_sound

-- bob is told the same, by what the law says, and not by computing
pub told_alike : NoninterferenceOver → hears (beside []) ≡ hears (beside unseen)
told_alike law = law bob new_core (history (beside [])) new_core (history (beside unseen)) (is_legal (beside [])) (is_legal (beside unseen)) (record {
  origin = new_core;
  first_begins = itself;
  second_begins = itself;
  first_ample = ample_alone;
  second_ample = ample_unseen;
  views = seen_alike;
})

-- a law that asks for the same entries of others doesn't speak of these histories
pub not_covered : others bob (history (beside [])) ≡ others bob (history (beside unseen)) → ⊥
unfolding everything
not_covered e = absurd (cc)

-- ---- a view that hides the clock of one's own events
abbrev IsNoninterferingWithoutClock : Base → Type 0
IsNoninterferingWithoutClock b = (user : List ℕ) (h k : List Entry) → LegalAlone (world_of b) h → LegalAlone (world_of b) k → IsAmple h → IsAmple k
    → view_without_clock b user h ≡ view_without_clock b user k → heard user (world_of b) h ≡ heard user (world_of b) k

-- it hides what bob is told: the time of the cell that they wrote
pub the_clock_is_told : IsNoninterferingWithoutClock new_core → ⊥
the_clock_is_told law =
    let same : hears (beside []) ≡ hears (beside later) = law bob (history (beside [])) (history (beside later)) (is_legal (beside [])) (is_legal (beside later)) ample_alone ample_later alike_without_clock in
    let times : pos 0 ≡ pos 9 = sym stamps.0 ∙ ap stamp_of same ∙ stamps.1 in
    absurd (cc)
