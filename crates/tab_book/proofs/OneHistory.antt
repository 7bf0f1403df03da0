-- A part and the one that follows on it are one history.
use Rattle.std.proofs.Common.{◌≡◌, ◌⊎◌, inl, inr, List, [], ◌∷◌, ◌++◌, append_assoc, refl, sym, ap, ◌∙◌, subst}
use Rattle.tab_history.specs.Answers.{answer, changes_by, IsReply}
use Rattle.tab_history.specs.Histories.{Entry, World, world_of, world_after, journal, clock_of, clock_after, clock_at, moves_of, jobs_of}
use Rattle.tab_history.specs.Legal.{answer_at, IsAnswer, LacksMemory, LegalAlone}
use Rattle.tab_history.specs.declared.event.Step.{Step}
use Rattle.tab_history.proofs.GoOn.{events_down}
use Rattle.tab_core.specs.Recording.{IsLegalFrom, entry_of}
use Rattle.tab_book.specs.Entries.{Posted, extend, past}
use Rattle.tab_book.specs.Rotating.{Portion, FollowsOn}

-- ---- later entries stand before earlier ones
on_top : (h : List Entry) (ps : List Posted) → extend h ps ≡ past ps ++ h
on_top h [] = refl
on_top h (p ∷ ps) =
    let e : Entry = entry_of p.event p.reply in
    on_top (e ∷ h) ps ∙ sym (append_assoc (past ps) (e ∷ []) h) ∙ ap (λ es. es ++ h) (sym (on_top (e ∷ []) ps))

in_turn : (h : List Entry) (ps qs : List Posted) → extend h (ps ++ qs) ≡ extend (extend h ps) qs
in_turn h [] qs = refl
in_turn h (p ∷ ps) qs = in_turn (entry_of p.event p.reply ∷ h) ps qs

-- ---- what the later entries leave, counted from either base
same_clock : (w : World) (h es : List Entry) → clock_of (world_after w h) es ≡ clock_of w (es ++ h)
unfolding clock_of
same_clock w h [] = refl
same_clock w h (e ∷ es) = ap (clock_after e.step e.reply) (same_clock w h es)

same_journal : (w : World) (h es : List Entry) → journal (world_after w h) es ≡ journal w (es ++ h)
unfolding journal
same_journal w h [] = refl
same_journal w h (e ∷ es) = λ i. changes_by (clock_at (same_clock w h es i) e.step) e.step e.reply ++ same_journal w h es i

same_answer : (w : World) (h es : List Entry) (step : Step) → answer_at (world_after w h) es [] step ≡ answer_at w (es ++ h) [] step
unfolding moves_of
same_answer w h es step = λ i. answer w.base (same_journal w h es i) [] (jobs_of []) (clock_at (same_clock w h es i) step) step

alone_more : (w : World) (h es : List Entry) → LegalAlone w h → LegalAlone (world_after w h) es → LegalAlone w (es ++ h)
alone_more w h [] legal later = legal
alone_more w h (e ∷ es) legal later = (alone_more w h es legal later.0, go later.1)
  where
    go : IsAnswer (world_after w h) es [] e.step e.reply ⊎ LacksMemory e.step e.reply → IsAnswer w (es ++ h) [] e.step e.reply ⊎ LacksMemory e.step e.reply
    go (inl a) = inl (subst (λ x. IsReply e.step x e.reply) (same_answer w h es e.step) a)
    go (inr lacks) = inr lacks

-- ---- the two parts
pub one_history : (earlier later : Portion) → IsLegalFrom earlier.base (past earlier.entries) → IsLegalFrom later.base (past later.entries) → FollowsOn earlier later → IsLegalFrom earlier.base (past (earlier.entries ++ later.entries))
unfolding IsLegalFrom
one_history earlier later first second on =
    let w : World = world_of earlier.base in
    let h : List Entry = past earlier.entries in
    let es : List Entry = past later.entries in
    let there : LegalAlone (world_after w h) es = (events_down (world_of later.base) (world_after w h) on.refines es second).0 in
    let joined : past (earlier.entries ++ later.entries) ≡ es ++ h = in_turn [] earlier.entries later.entries ∙ on_top h later.entries in
    subst (LegalAlone w) (sym joined) (alone_more w h es first there)
