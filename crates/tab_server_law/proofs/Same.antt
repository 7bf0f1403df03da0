-- Over bases of which one refines the other the same is seen and heard.
use Rattle.std.proofs.Common.{◌≡◌, ℕ, List, [], ◌∷◌, ◌++◌, cond, refl, ◌∙◌, ap}
use Rattle.std.specs.Prelude.{bytes_eq}
use Rattle.tab_label.specs.Sets.{union}
use Rattle.tab_history.specs.Bases.{Base}
use Rattle.tab_history.specs.Changes.{Change, AuthsSet}
use Rattle.tab_history.specs.Readings.{held_auths}
use Rattle.tab_history.specs.Answers.{Told, changes_by}
use Rattle.tab_history.specs.Histories.{Entry, World, world_of, world_after, clock_of, clock_at, clock_after, journal, is_by, moves_of}
use Rattle.tab_history.specs.Legal.{LegalAlone}
use Rattle.tab_history.specs.Refinement.{Refines}
use Rattle.tab_history.specs.declared.event.Step.{Step}
use Rattle.tab_history.specs.declared.event.Step.TheVariants.{Event}
use Rattle.tab_history.specs.declared.reply.Reply.TheVariants.{Opened}
use Rattle.tab_history.proofs.GoOn.{events_down, list_same, moves_same}
use Rattle.tab_noninterference.specs.Given.{auths_given}
use Rattle.tab_noninterference.specs.Views.{sight, sights, view}
use Rattle.tab_noninterference.specs.Hearing.{is_covered, list_opened, heard}

module _ (b a : Base) (r : Refines (world_of b) (world_of a)) where
  abbrev v : World
  v = world_of b

  abbrev w : World
  w = world_of a

  -- what entries leave of b refines what they leave of a
  after : (es : List Entry) → LegalAlone v es → Refines (world_after v es) (world_after w es)
  after es legal = (events_down v w r es legal).1

  same_clock : (es : List Entry) → clock_of v es ≡ clock_of w es
  unfolding clock_of
  same_clock [] = r.reads.clock
  same_clock (e ∷ es) = ap (clock_after e.step e.reply) (same_clock es)

  same_journal : (es : List Entry) → journal v es ≡ journal w es
  unfolding journal
  same_journal [] = refl
  same_journal (e ∷ es) = λ i. changes_by (clock_at (same_clock es i) e.step) e.step e.reply ++ same_journal es i

  same_opened : (es : List Entry) (step : Step) (reply : Told) → LegalAlone v es → list_opened b (journal v es) step reply ≡ list_opened a (journal w es) step reply
  same_opened es (Event e) (Opened session) legal = list_same (world_after v es) (world_after w es) (after es legal) e.act
  same_opened es (Event e) _ legal = refl
  same_opened es step reply legal = refl

  module _ (user : List ℕ) where
    same_given : (j : List Change) → auths_given b user j ≡ auths_given a user j
    unfolding auths_given held_auths
    same_given [] = r.reads.auths user
    same_given (AuthsSet n set ∷ j) = λ i. cond (bytes_eq n user) (union set (same_given j i)) (same_given j i)
    same_given (_ ∷ j) = same_given j

    same_moves : (es : List Entry) → LegalAlone v es → moves_of v user es ≡ moves_of w user es
    unfolding moves_of
    same_moves [] legal = refl
    same_moves (e ∷ es) legal =
        let moves = moves_same (world_after v es) (world_after w es) (after es legal.0) e.step e.reply in
        λ i. cond (is_by user e.step) (moves i ++ same_moves es legal.0 i) (same_moves es legal.0 i)

    same_sights : (held : List (List ℕ)) (es : List Entry) → LegalAlone v es → sights held user v es ≡ sights held user w es
    unfolding sights
    same_sights held [] legal = refl
    same_sights held (e ∷ es) legal = λ i. sight held user (same_moves es legal.0 i) (same_clock es i) e ++ same_sights held es legal.0 i

    -- the user sees the same of entries, whichever they began on
    pub same_view : (es : List Entry) → LegalAlone v es → view b user es ≡ view a user es
    same_view es legal =
        let held : auths_given b user (journal v es) ≡ auths_given a user (journal w es) = same_given (journal v es) ∙ ap (auths_given a user) (same_journal es) in
        let seen : sights (auths_given b user (journal v es)) user v es ≡ sights (auths_given a user (journal w es)) user w es = same_sights (auths_given b user (journal v es)) es legal ∙ ap (λ x. sights x user w es) held in
        λ i. record { held = held i; sights = seen i }

    -- and is told the same
    pub same_heard : (es : List Entry) → LegalAlone v es → heard user v es ≡ heard user w es
    unfolding heard
    same_heard [] legal = refl
    same_heard (e ∷ es) legal =
        let list = same_opened es e.step e.reply legal.0 in
        let earlier = same_heard es legal.0 in
        λ i. cond (is_by user e.step) (cond (is_covered e.step) (record { reply = e.reply; list = list i } ∷ []) [] ++ earlier i) (earlier i)
