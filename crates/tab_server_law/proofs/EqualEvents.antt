-- Histories of events that stand alone, and that look alike to a user, answer them alike.
use Rattle.std.proofs.Common.{◌≡◌, ◌⊎◌, inl, inr, ℕ, ℤ, List, [], ◌∷◌, ◌++◌, Bool, true, false, cond, refl, sym, ◌∙◌, ap, subst}
use Rattle.std.specs.Cmp.Lexicographic.{bytes_decides}
use Rattle.tab_label.specs.Laws.{IsSubset}
use Rattle.tab_key.specs.Order.{NumbersBelow}
use Rattle.tab_history.specs.Bases.{Base}
use Rattle.tab_history.specs.Changes.{Change}
use Rattle.tab_history.specs.Readings.{base_table, base_records}
use Rattle.tab_history.specs.Answers.{changes_by}
use Rattle.tab_history.specs.Histories.{Entry, World, world_of, clock_of, clock_at, journal, moves_of, jobs_of, is_by, user_of}
use Rattle.tab_history.specs.Legal.{answer_at, IsAnswer, LegalAlone, IsAmple, IsExhausted, LacksMemory}
use Rattle.tab_history.proofs.LeftOpen.{closed_reply}
use Rattle.tab_noninterference.specs.Given.{auths_given}
use Rattle.tab_noninterference.specs.Concerns.{visible}
use Rattle.tab_noninterference.specs.Views.{Asked, clock_shown, is_aside, own_sight, other_sight, sights, View, view}
use Rattle.tab_noninterference.specs.Hearing.{Heard, heard_of, heard}
use Rattle.tab_noninterference.proofs.Ample.{is_ample, ample_answer}
use Rattle.tab_noninterference.proofs.SeenBase.{base_seen, sound_below}
use Rattle.tab_noninterference.proofs.Auths.{given_before}
use Rattle.tab_noninterference.proofs.Aside.{aside_changes, aside_heard, outside_closed}
use Rattle.tab_noninterference.proofs.Replay.{Replay, visible_append}
use Rattle.tab_server_law.specs.ServerNoninterference.{NoninterferenceOfEvents}
use Rattle.tab_server_law.proofs.ReplayAlone.{knowing, own_alone, replay_alone, alone_changed}
use Rattle.tab_server_law.proofs.OwnStep.{shown_clock, known as known_over, own_step}

module _ (b : Base) (clock : ℤ) (held : List (List ℕ)) (user : List ℕ) (low : (t : List ℕ) → NumbersBelow b.next (base_records (base_table b t))) where
  -- what they may read of the base
  abbrev c : Base
  c = base_seen held b

  abbrev w : World
  w = record { base = b; changes = []; clock = clock }

  -- what the replay of the user's sights knows
  abbrev known : List Entry → Replay
  known es = known_over b clock held user low es

  -- what is seen, replayed, gives what the user knows and was told
  pub replay_is : (es : List Entry) → LegalAlone w es → IsAmple es → IsSubset (auths_given b user (journal w es)) held → replay_alone c held user (sights held user w es) ≡ known es
  unfolding sights journal moves_of heard
  replay_is [] legal ample within = refl
  replay_is (e ∷ es) legal ample within = by_whom (is_by user e.step) refl (replay_is es legal.0 ample.0 earlier)
    where
      j : List Change
      j = journal w es

      cs : List Change
      cs = changes_by (clock_at (clock_of w es) e.step) e.step e.reply

      earlier : IsSubset (auths_given b user j) held
      earlier term h = within term (given_before b user cs j term h)

      now : ℤ
      now = clock_at (clock_of w es) e.step

      is_answer : is_aside e.step ≡ false → IsAnswer w es [] e.step e.reply ⊎ LacksMemory e.step e.reply → e.reply ≡ ample_answer b j [] now e.step
      is_answer outer (inl h) =
          let one : e.reply ≡ answer_at w es [] e.step = closed_reply e.step (answer_at w es [] e.step) e.reply (outside_closed e.step outer) h in
          one ∙ is_ample b j [] (jobs_of []) now e.step outer (λ x. ample.1 (subst IsExhausted (sym one) x))
      is_answer outer (inr lacks) = absurd (ample.1 (inl lacks.1))

      by_whom : (v : Bool) → is_by user e.step ≡ v → replay_alone c held user (sights held user w es) ≡ known es
          → replay_alone c held user (cond v (own_sight (moves_of w user es) now e.step) (other_sight held user now e.step e.reply) ++ sights held user w es)
          ≡ knowing (visible held user (cs ++ j)) (cond v (heard_of b j e.step e.reply ++ heard user w es) (heard user w es))
      by_whom true t ih = by_side (is_aside e.step) refl
        where
          by_side : (x : Bool) → is_aside e.step ≡ x
              → replay_alone c held user (cond x [] (Asked e.step (clock_shown (moves_of w user es) now e.step) ∷ []) ++ sights held user w es)
              ≡ knowing (visible held user (cs ++ j)) (heard_of b j e.step e.reply ++ heard user w es)
          by_side true a = ih ∙ (λ i. knowing (visible held user (sym (aside_changes now e.step e.reply a) i ++ j)) (sym (aside_heard b j e.step e.reply a) i ++ heard user w es))
          by_side false a =
              let his : user_of e.step ≡ user = (bytes_decides (user_of e.step) user).0 t in
              ap (own_alone c held user e.step (shown_clock (moves_of w user es) (clock_of w es) e.step)) ih ∙ own_step b clock held user low (moves_of w user es) e es his (is_answer a legal.1) earlier
      by_whom false t ih =
          alone_changed c held user (visible held user cs) (sights held user w es)
          ∙ ap (λ (r : Replay). record r { changes = visible held user cs ++ r.changes }) ih
          ∙ ap (λ seen. knowing seen (heard user w es)) (sym (visible_append held user cs j))

-- Two histories that look alike to a user tell them the same.
pub two_worlds_of_events : NoninterferenceOfEvents
two_worlds_of_events b sound user h k p q a c same = from_view h p a ∙ ap told same ∙ sym (from_view k q c)
  where
    told : View → List Heard
    told v = (replay_alone (base_seen v.held b) v.held user v.sights).heard

    from_view : (es : List Entry) → LegalAlone (world_of b) es → IsAmple es → heard user (world_of b) es ≡ told (view b user es)
    from_view es l m = sym (ap (λ (r : Replay). r.heard) (replay_is b b.clock (auths_given b user (journal (world_of b) es)) user (sound_below b sound) es l m (λ term x. x)))
